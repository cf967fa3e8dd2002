-- Races: runs that start although one that precedes them at their tag hasn't ended.
use Rattle.std.specs.Prelude.{◌≡◌, ◌↔◌, ℕ, ◌+◌, ◌<◌, ◌≤◌, ◌⊎◌, List, length, take, Option, Some, MatchOption, slice_get}
use Rattle.lft_tag.specs.{declared.Tag.Tag, Tags.UpTo}
use Rattle.lft_ir.specs.{Parts.Parts, declared.steps.row.{Row.Row, Step.TheVariants.Start}}
use Rattle.lft_graph.specs.Precedence.{Precedes}
use Rattle.lft_model.specs.{declared.breach.Breach.Breach, Plans.PlanParts, Breaches.{First, RowBreach, RowOrder}, Runs.Ran}
use Rattle.lft_races.specs.Runs.{StartsAt, EndsAt}

-- the first row that breaks one of the rules 1 to 4, whichever runs have no end
abbrev pub FirstEarly : PlanParts → List Row → Breach → Type 0
FirstEarly plan t b = (b.rule ≤ 4) × RowBreach plan t b × ((c : Breach) → RowBreach plan t c → c.rule ≤ 4 → RowOrder b c)

-- the first breach, or that of rows behind which runs may end yet
abbrev pub FirstSoFar : PlanParts → List Row → Breach → Type 0
FirstSoFar plan t b = First plan t b ⊎ FirstEarly plan t b

-- no row before place i ends a run of a at g
abbrev pub NotEnded : List Row → Tag → ℕ → ℕ → Type 0
NotEnded t g a i = (j : ℕ) → j < i → ¬ EndsAt t g a j

-- a has a run at g, and no row before place i ends it
pub record IsUnfinished (t : List Row) (g : Tag) (a i : ℕ) : Type 0 where
  pub ran : Ran t g a
  pub not_ended : NotEnded t g a i

-- the row at place i starts a run although one at its tag, of a reaction that precedes its own, hasn't ended
pub record IsRace (program : Parts) (t : List Row) (i : ℕ) : Type 0 where
  pub row : Row
  pub earlier : ℕ
  pub is_row : slice_get t i ≡ Some row
  pub starts : row.step ≡ Start
  pub precedes : Precedes program earlier row.reaction
  pub unfinished : IsUnfinished t row.tag earlier i

-- the first race, if there is one
abbrev pub IsFirstRace : Parts → List Row → Option ℕ → Type 0
IsFirstRace program t o = MatchOption o ((i : ℕ) → ¬ IsRace program t i) (λ i. IsRace program t i × ((j : ℕ) → IsRace program t j → i ≤ j))

-- so many rows stand before a breach: those before its row, and where it has none, those at the tags up to its own
pub record StandBefore (t : List Row) (b : Breach) (n : ℕ) : Type 0 where
  pub within : n ≤ length t
  pub of_row : 0 < b.row → n + 2 ≡ b.row
  pub of_tag : b.row ≡ 0 → (i : ℕ) (row : Row) → slice_get t i ≡ Some row → (i < n) ↔ UpTo row.tag b.tag

-- the first race of the rows before a breach, if there is one
abbrev pub IsRaceBefore : PlanParts → List Row → Breach → Option ℕ → Type 0
IsRaceBefore plan t b o = (n : ℕ) × StandBefore t b n × IsFirstRace plan.program (take n t) o

-- each run that starts before place n ends in a later row
abbrev pub EndLater : List Row → ℕ → Type 0
EndLater t n = (k a : ℕ) (g : Tag) → k < n → StartsAt t g a k → (e : ℕ) × (k < e) × EndsAt t g a e
