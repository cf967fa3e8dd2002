-- What is told of a log while it comes: how far its rows are judged.
use Rattle.std.specs.Prelude.{◌≢◌, ◌<◌, ◌≤◌, ℕ, List, length, flat_map, Option, Result, MatchResult}
use Rattle.std.specs.{List.All, Io.KnownBytes.{Appends, Consumes}}
use Rattle.lft_ir.specs.declared.steps.row.Row.{Row}
use Rattle.lft_model.specs.Plans.{PlanParts}
use Rattle.lft_load.specs.{Written.AppendsFront, declared.fault.Fault.Fault}
use Rattle.lft_monitor.specs.{Follows.IsJudged, declared.reach.Reach.Reach}
use Rattle.lft_log.specs.{Told.TellsPlan, Follow.Lines.unbroken_words}
use Rattle.lft_load.specs.declared.fault.Part.TheVariants as part

-- so far the first rows of the bytes are judged, for the plan that they tell; they are `every` rows at least, which isn't 0
pub record IsReachOf (base : PlanParts) (bytes : List ℕ) (every : ℕ) (r : Reach) : Type 0 where
  pub plan : PlanParts
  pub t : List Row
  pub others : List (List (List ℕ))
  pub rest : List ℕ
  pub tells : TellsPlan base bytes plan t others rest
  pub judged : IsJudged plan t r
  pub asked : 0 < every
  pub many : every ≤ length t

-- this is so of the lines of some reaches of the bytes, one behind the other
abbrev pub OfReaches : PlanParts → List ℕ → ℕ → (List ℕ → Type 0) → Type 0
OfReaches base bytes every P = (reaches : List Reach) × All (IsReachOf base bytes every) reaches × P (flat_map unbroken_words reaches)

-- this is so of the lines of some reaches of what the reader gave
abbrev pub OfReadReaches : PlanParts → ℕ → Option (List ℕ) → Option (List ℕ) → (List ℕ → Type 0) → Type 0
OfReadReaches base every old new P = (bytes : List ℕ) × Consumes old new bytes × OfReaches base bytes every P

-- the text was written; or a front of it, where a fault says that a writer failed
abbrev pub WritesOrFails : {X : Type 0} → Result X Fault → Option (List ℕ) → Option (List ℕ) → List ℕ → Type 0
WritesOrFails r old new text = MatchResult r (λ _. Appends old new text) (λ f. (f.part ≢ part.Write → Appends old new text) × AppendsFront old new text)
