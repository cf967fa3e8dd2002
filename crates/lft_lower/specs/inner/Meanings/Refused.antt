-- Why what is written means nothing, and why nothing more is made.
use Rattle.std.specs.Prelude.{◌≡◌, ℕ, List, IsSomeAnd, slice_get}
use Rattle.lft_whole.specs.declared.{sources.stop.{Place.Place, FileRefusal.FileRefusal}, tree.Reference.Reference}
use Rattle.lft_elaborate.specs.inner.Refused.{IsUnmeant}
use Rattle.lft_lower.specs.inner.Meanings.Meanings.{Here}
use Rattle.lft_whole.specs.declared.sources.why.Why.TheVariants as why

-- the refusal says of the main reactor that there is more than is listed
abbrev pub IsPassed : Place → FileRefusal → Type 0
IsPassed main r = (r.place ≡ main) × (r.why ≡ why.TooMuch)

-- the refusal is of one of these things
abbrev pub IsOfSome : {A : Type 0} → (A → FileRefusal → Type 0) → List A → FileRefusal → Type 0
IsOfSome Is xs r = (k : ℕ) × IsSomeAnd (slice_get xs k) (λ x. Is x r)

-- ---- references

-- the refusal is of a reference that means nothing
abbrev pub IsOfReference : Here → ℕ → Reference → FileRefusal → Type 0
IsOfReference h file r refusal = IsUnmeant h.settings.shapes.items h.shape file r refusal

-- the refusal is of one of these references
abbrev pub IsOfOne : Here → ℕ → List Reference → FileRefusal → Type 0
IsOfOne h file rs refusal = IsOfSome (IsOfReference h file) rs refusal
