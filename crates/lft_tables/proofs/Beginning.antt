-- A text whose first lines are read, and what stands behind them.
use Rattle.std.proofs.Common.{◌≡◌, ◌++◌, ◌∷◌, ◌∙◌, inl, inr, ℕ, List, [], length, refl, sym, ap, subst, arith}
use Rattle.std.{specs.List.AllZip, proofs.lemmas.List.{append_assoc, append-nil}}
use Rattle.lft_tables.specs.{Parts.HasNoQuote, Records.records_of, inner.Parts.{BeginsItems, HoldsItems, IsCut}}
use Rattle.lft_tables.proofs.{Cutting.records_cut, Together.{no_record, zipped}}

-- the records of a text are those of its first lines, and then those of what stands behind them
pub records_of_lines : (text lines behind : List ℕ) → IsCut text lines behind → HasNoQuote lines → records_of text ≡ records_of lines ++ records_of behind
records_of_lines text lines behind (is, inl none) quiet =
    ap records_of (is ∙ ap (λ (b : List ℕ). lines ++ b) none ∙ append-nil lines) ∙ sym (append-nil (records_of lines)) ∙ ap (λ (t : List (List (List ℕ))). records_of lines ++ t) (sym (ap records_of none ∙ no_record))
records_of_lines text lines behind (is, inr ends) quiet = ap records_of is ∙ records_cut lines behind quiet ends.0 ends.1

module _ {Item : Type 0} (tells : List (List ℕ) → Item → Type 0) where
  -- before anything is read, all is left
  pub begins_none : (text : List ℕ) → BeginsItems tells text [] text
  begins_none text = ([], refl, tt)

  -- what the records of a text's first lines tell is what it begins with
  pub begins_lines : (text lines behind : List ℕ) (items : List Item) → IsCut text lines behind → HoldsItems tells lines items → BeginsItems tells text items behind
  begins_lines text lines behind items cut held = (records_of lines, records_of_lines text lines behind cut held.0, held.1)

  -- items that come next are read too
  pub begins_more : (text rest behind : List ℕ) (items more : List Item) → BeginsItems tells text items rest → BeginsItems tells rest more behind → BeginsItems tells text (items ++ more) behind
  begins_more text rest behind items more (first, whole, each) (next, further, others) = (first ++ next, whole ∙ ap (λ (t : List (List (List ℕ))). first ++ t) further ∙ sym (append_assoc first next (records_of behind)), zipped tells first next items more each others)

  -- where nothing stands behind them, the items are those of all records
  pub begins_all : (text : List ℕ) (items : List Item) → BeginsItems tells text items [] → AllZip tells (records_of text) items
  begins_all text items (first, whole, each) = subst (λ (t : List (List (List ℕ))). AllZip tells t items) (sym (whole ∙ ap (λ (t : List (List (List ℕ))). first ++ t) no_record ∙ append-nil first)) each

  -- where nothing is left to be read, the items are those of all records
  pub begins_out : (text rest : List ℕ) (items : List Item) → BeginsItems tells text items rest → length rest ≡ 0 → AllZip tells (records_of text) items
  begins_out text [] items begins none = begins_all text items begins
  begins_out text (x ∷ xs) items begins none = absurd (omega arith)
