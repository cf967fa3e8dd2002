-- Inside: the rows behind which a breach is sure.
use Rattle.std.specs.Prelude.{◌≡◌, ℕ, ◌≤◌, List, take, Option, MatchOption}
use Rattle.lft_ir.specs.declared.steps.row.Row.{Row}
use Rattle.lft_model.specs.{declared.breach.Breach.Breach, Plans.PlanParts, Breaches.RowBreach}
use Rattle.lft_races.specs.Races.{FirstEarly}
use Rattle.lft_log.specs.Explain.Cuts.{IsCutBehind}

-- these are the rows behind which the breach is sure, if there are such
abbrev pub IsCutOf : List Row → Breach → Option (List Row) → Type 0
IsCutOf t b o = MatchOption o ((n : ℕ) → ¬ IsCutBehind t b n) (λ rows. (n : ℕ) × IsCutBehind t b n × (rows ≡ take n t))

-- the first row that breaks one of the rules 1 to 4, if one does
abbrev pub IsEarlyOf : PlanParts → List Row → Option Breach → Type 0
IsEarlyOf plan t o = MatchOption o ((b : Breach) → RowBreach plan t b → ¬ (b.rule ≤ 4)) (FirstEarly plan t)
