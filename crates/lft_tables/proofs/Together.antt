-- What the records of a text tell is what those of its parts tell, one part after another.
use Rattle.std.proofs.Common.{◌≡◌, ◌∙◌, ◌++◌, ◌∷◌, inl, inr, ℕ, zero, suc, List, [], Option, Some, IfSome, Bool, true, false, refl, sym, ap, subst}
use Rattle.std.specs.Prelude.{◌==◌, ◌&&◌, not}
use Rattle.std.{specs.List.{AllZip, list_all}, proofs.lemmas.{Bool.false≢true, List.append-nil}}
use Rattle.csv.specs.{Machine.next_record, Reading.{records_from, strip_bom}}
use Rattle.lft_tables.{specs.{Records.records_of, Parts.{HasNoQuote, EndsLine}, inner.Parts.{BeginsPlain, HoldsItems, IsCut}}, proofs.Cutting.records_cut}

no_quote_in_both : (a b : List ℕ) → HasNoQuote a → HasNoQuote b → HasNoQuote (a ++ b)
no_quote_in_both [] b x y i = y i
no_quote_in_both (c ∷ a) b x y zero = x zero
no_quote_in_both (c ∷ a) b x y (suc i) = no_quote_in_both a b (λ j. x (suc j)) y i

-- lists that go together one by one, put behind lists that do
pub zipped : {A B : Type 0} (R : A → B → Type 0) (xs more : List A) (ys others : List B) → AllZip R xs ys → AllZip R more others → AllZip R (xs ++ more) (ys ++ others)
zipped R [] more [] others h k = k
zipped R [] more (y ∷ ys) others h k = absurd h
zipped R (x ∷ xs) more [] others h k = absurd h
zipped R (x ∷ xs) more (y ∷ ys) others h k = (h.0, zipped R xs more ys others h.1 k)

-- what the records of two parts tell, one part after the other, is what those of the whole tell
pub holds_both : {Item : Type 0} (tells : List (List ℕ) → Item → Type 0) (text a b : List ℕ) (items more : List Item) → text ≡ a ++ b → EndsLine a → BeginsPlain b → HoldsItems tells a items → HoldsItems tells b more → HoldsItems tells text (items ++ more)
holds_both tells text a b items more is ends plain x y =
    let cut : records_of text ≡ records_of a ++ records_of b = ap records_of is ∙ records_cut a b x.0 ends plain in (
      subst HasNoQuote (sym is) (no_quote_in_both a b x.0 y.0),
      subst (λ (t : List (List (List ℕ))). AllZip tells t (items ++ more)) (sym cut) (zipped tells (records_of a) (records_of b) items more x.1 y.1),
    )

-- what a clause says of what is there
pub at_some : {X : Type 0} (P : X → Type 0) (r : Option X) (x : X) → r ≡ Some x → IfSome r P → P x
at_some {X} P r x e h = subst (λ (o : Option X). IfSome o P) e h

second : (a b : Bool) → (a && b) ≡ true → b ≡ true
second true b h = h
second false b h = absurd (false≢true h)

-- a text of which each byte was looked at
pub quiet : (text : List ℕ) → list_all (λ (c : ℕ). not (c == 34)) text ≡ true → HasNoQuote text
quiet [] h i e = absurd (cc e)
quiet (c ∷ text) h zero e = let s : c ≡ 34 = cc e in absurd (false≢true (rw s at h))
quiet (c ∷ text) h (suc i) e = quiet text (second (not (c == 34)) (list_all (λ (c : ℕ). not (c == 34)) text) h) i e

-- a text without bytes has no record
pub no_record : records_of [] ≡ []
unfolding records_from next_record strip_bom
no_record = refl

-- a line whose only record is the first one of a table stands above the records of what is behind it
pub under_line : (top : List (List ℕ)) (text first rest : List ℕ) → HasNoQuote first → records_of first ≡ top ∷ [] → IsCut text first rest → records_of text ≡ top ∷ records_of rest
under_line top text first rest none one (is, inl empty) = ap records_of (is ∙ ap (λ (t : List ℕ). first ++ t) empty ∙ append-nil first) ∙ one ∙ ap (λ (t : List (List (List ℕ))). top ∷ t) (sym (ap records_of empty ∙ no_record))
under_line top text first rest none one (is, inr (ends, plain)) = ap records_of is ∙ records_cut first rest none ends plain ∙ ap (λ (t : List (List (List ℕ))). t ++ records_of rest) one
