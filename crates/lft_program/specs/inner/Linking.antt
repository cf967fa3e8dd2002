-- What linking keeps of each port. The contracts of the crate's own functions alone need this file.
use Rattle.std.specs.Prelude.{◌≡◌, ℕ, List, Option, Some, None, length, slice_get}
use Rattle.lft_tag.specs.declared.Source.{Source}
use Rattle.lft_resolve.specs.declared.expansion.origins.Reached.{Reached}
use Rattle.lft_program.specs.declared.nesting.linking.Linked.{Linked}

-- the port of this number has this source and origin, and these delays
abbrev pub IsLinked : List (Option Source) → List Reached → ℕ → Linked → Type 0
IsLinked sources reached p l = (slice_get sources p ≡ Some l.source) × (slice_get reached p ≡ Some (record { origin = l.origin; shift = Some l.shift }))

-- the delays into the port of this number sum to too much
abbrev pub IsTooLong : List Reached → ℕ → Type 0
IsTooLong reached p = (r : Reached) × (slice_get reached p ≡ Some r) × (r.shift ≡ None)

-- one for each port, in order
pub record AreLinked (sources : List (Option Source)) (reached : List Reached) (links : List Linked) : Type 0 where
  pub as_long : length links ≡ length sources
  pub each : (p : ℕ) (l : Linked) → slice_get links p ≡ Some l → IsLinked sources reached p l
