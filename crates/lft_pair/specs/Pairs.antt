-- The comparison of two legal traces of one plan.
use Rattle.std.specs.Prelude.{◌≡◌, ◌≢◌, ℕ, ◌<◌, ◌⊎◌, ◌↔◌, List, Some, slice_get}
use Rattle.lft_tag.specs.{declared.Tag.Tag, Tags.Before}
use Rattle.lft_ir.specs.declared.{parts.{Name.Name, Value.Value}, steps.row.Row.Row}
use Rattle.lft_graph.specs.Graph.{GraphParts, IsGraphOf}
use Rattle.lft_model.specs.{Plans.PlanParts, Presence.At, Runs.{Ran, reads_at, answer_at}, Recorded.{SameHistory, SameRuns}}
use Rattle.lft_pair.specs.declared.comparison.Pair.{Pair, TheVariants.{Same, Differ}}

-- (h, a) comes before (g, r): by tag, then by level, then by reaction number
abbrev pub ComesFirst : List ℕ → Tag → ℕ → Tag → ℕ → Type 0
ComesFirst levels h a g r = Before h g ⊎ ((h ≡ g) × ((k l : ℕ) × (slice_get levels a ≡ Some k) × (slice_get levels r ≡ Some l) × ((k < l) ⊎ ((k ≡ l) × (a < r)))))

-- both traces have a run of r at g and the two are equal, or neither has one
pub record IsSameRun (plan : PlanParts) (t s : List Row) (g : Tag) (r : ℕ) : Type 0 where
  pub there : Ran t g r → Ran s g r
  pub back : Ran s g r → Ran t g r
  pub reads : Ran t g r → reads_at plan t g r ≡ reads_at plan s g r
  pub answers : Ran t g r → answer_at plan t g r ≡ answer_at plan s g r

-- both traces have a run of r at g, which met the same history and the same inputs and answered otherwise; all that comes before it is the same in both
pub record IsDifference (plan : PlanParts) (t s : List Row) (g : Tag) (r : ℕ) : Type 0 where
  pub graph : GraphParts
  pub is_graph : IsGraphOf plan.program graph
  pub first_ran : Ran t g r
  pub second_ran : Ran s g r
  pub same_history : SameHistory plan t s g r
  pub same_reads : reads_at plan t g r ≡ reads_at plan s g r
  pub other_answer : answer_at plan t g r ≢ answer_at plan s g r
  pub same_before : (h : Tag) (a : ℕ) → ComesFirst graph.levels h a g r → IsSameRun plan t s h a

-- same: they have the same runs; differ: the run of that tag and reaction is the difference
abbrev pub TellsPair : PlanParts → List Row → List Row → Pair → Type 0
TellsPair plan t s Same = SameRuns plan t s
TellsPair plan t s (Differ g r) = IsDifference plan t s g r

-- each port and action has the same values at each tag
abbrev pub HaveSameValues : PlanParts → List Row → List Row → Type 0
HaveSameValues plan t s = (g : Tag) (n : Name) (v : Value) → At plan t g n v ↔ At plan s g n v

-- what the answer says: the same exactly where the traces have the same runs, and then the same values
pub record IsComparison (plan : PlanParts) (t s : List Row) (p : Pair) : Type 0 where
  pub is_pair : TellsPair plan t s p
  pub exact : (p ≡ Same) ↔ SameRuns plan t s
  pub values : p ≡ Same → HaveSameValues plan t s
