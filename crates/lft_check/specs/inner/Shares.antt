-- The tags of a trace, shared out among workers. This serves the proof of the verdict alone.
use Rattle.std.specs.Prelude.{◌≡◌, ℕ, ◌+◌, ◌*◌, ◌/◌, ◌<◌, List, length, Option, Some, Result, Ok, IfOk, slice_get, slice_index_or}
use Rattle.lft_tag.specs.declared.{Tag.Tag, NoMemory.NoMemory}
use Rattle.lft_model.specs.declared.breach.Breach.{Breach}
use Rattle.lft_rows.specs.{declared.slices.Slice.Slice, Presence.Traces.TraceParts}
use Rattle.lft_check.specs.inner.Verdicts.{LeastOf, BreachIn}

-- where the share of the k-th of so many workers begins
abbrev pub share_start : ℕ → ℕ → ℕ → ℕ
share_start tags workers k = k * tags / workers

-- of the breaches of the rules 8 to 10 in the share of the k-th worker the least, if any
abbrev pub IsLeastOfShare : TraceParts → List Slice → Option Tag → ℕ → ℕ → Option Breach → Type 0
IsLeastOfShare cut slices bound workers k = LeastOf (BreachIn cut slices bound (share_start (length slices) workers k) (share_start (length slices) workers (k + 1)))

-- each of so many workers found the least breach of its share, if any, or wanted memory
pub record AreShares (cut : TraceParts) (slices : List Slice) (bound : Option Tag) (workers : ℕ) (found : List (Result (Option Breach) NoMemory)) : Type 0 where
  pub count : length found ≡ workers
  pub each : (k : ℕ) (d : Result (Option Breach) NoMemory) → k < workers → IfOk (slice_index_or found k d) (IsLeastOfShare cut slices bound workers k)

-- one of the first n workers found the breach
abbrev pub IsFound : List (Result (Option Breach) NoMemory) → ℕ → Breach → Type 0
IsFound found n b = (k : ℕ) × (k < n) × (slice_get found k ≡ Some (Ok (Some b)))

-- the first n workers had memory enough
abbrev pub AreOk : List (Result (Option Breach) NoMemory) → ℕ → Type 0
AreOk found n = (k : ℕ) → k < n → (o : Option Breach) × (slice_get found k ≡ Some (Ok o))
