-- Inside: the text that a reader gives, some whole lines at a time.
use Rattle.std.specs.Prelude.{◌≡◌, ◌∷◌, ℕ, List, [], Option, Some, length}
use Rattle.std.specs.Io.KnownBytes.{prepend_known}
use Rattle.lft_tables.specs.{Records.records_of, inner.Parts.IsCut, declared.table_lines.TableLines.TableLines}

-- what is still to be given, where it is known
abbrev pub text_left : {R : Type 0} → (R → Option (List ℕ)) → TableLines R → Option (List ℕ)
text_left remaining source = prepend_known source.read.items (remaining source.reader)

-- the text begins with these lines, and what stands behind them is still to be given; they are none only where the text is empty
pub record AreNextLines {R : Type 0} (remaining : R → Option (List ℕ)) (source : TableLines R) (lines text : List ℕ) : Type 0 where
  pub behind : List ℕ
  pub cut : IsCut text lines behind
  pub left : text_left remaining source ≡ Some behind
  pub none : length lines ≡ 0 → text ≡ []

-- the text's first record is this one, and those of what is still to be given are the others
abbrev pub AreLinesBelow : {R : Type 0} → (R → Option (List ℕ)) → List (List ℕ) → TableLines R → List ℕ → Type 0
AreLinesBelow remaining first source text = (body : List ℕ) × (text_left remaining source ≡ Some body) × (records_of text ≡ first ∷ records_of body)
