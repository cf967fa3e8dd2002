-- What is said of two traces, from texts, and what was written of it.
use Rattle.std.specs.Prelude.{ℕ, List, Option}
use Rattle.std.specs.Io.KnownBytes.{Appends}
use Rattle.lft_ir.specs.{Parts.Parts, declared.steps.row.Row.Row}
use Rattle.lft_tables.specs.Records.{records_of}
use Rattle.lft_trace.specs.Traces.{Table}
use Rattle.lft_model.specs.{Plans.PlanParts, Runs.by_ends, Breaches.{Legal, First}, OneWorker.{OneWorker, InOrderOfPrecedence}, Accepted.IsAccepted}
use Rattle.lft_pair.specs.Pairs.{IsComparison}
use Rattle.lft_load.specs.Meaning.{IsPlanOf, OfOnly}
use Rattle.lft_driver.specs.{declared.paired.Paired.Paired, Lines.line_of_pair, Meaning.{HasTable, Mean}}
use Rattle.lft_pair.specs.declared.comparison.Pair.TheVariants as pair
use Rattle.lft_driver.specs.declared.paired.Paired.TheVariants as paired

-- the runs, in order of their ends, are an execution by one worker, and no run started before every run that precedes it at its tag had ended
abbrev pub IsExecution : PlanParts → List Row → Type 0
IsExecution plan rows = OneWorker plan (by_ends plan rows) × InOrderOfPrecedence plan rows

-- both traces are legal, and executions
pub record AreAccepted (plan : PlanParts) (rows others : List Row) : Type 0 where
  pub first : Legal plan rows
  pub second : Legal plan others
  pub first_runs : IsExecution plan rows
  pub second_runs : IsExecution plan others

-- the first breach of the first trace, else that of the second, else what a comparison of the two says, with the numbers of runs and of tags where they are the same
abbrev pub IsPairing : PlanParts → List Row → List Row → Paired → Type 0
IsPairing plan rows others (paired.First b) = First plan rows b
IsPairing plan rows others (paired.Second b) = Legal plan rows × IsExecution plan rows × First plan others b
IsPairing plan rows others (paired.Same runs tags) = AreAccepted plan rows others × IsAccepted plan rows runs tags × IsComparison plan rows others pair.Same
IsPairing plan rows others (paired.Differ g r) = AreAccepted plan rows others × IsComparison plan rows others (pair.Differ g r)

-- the plan and the rows of the four texts
pub record MeanBoth (program externals first second : List ℕ) (plan : PlanParts) (rows others : List Row) : Type 0 where
  pub is_first : Mean program externals first plan rows
  pub is_second : Table plan.program (records_of second) others

-- these are the rows of the two trace tables, and no others
abbrev pub HaveTables : Parts → List ℕ → List ℕ → List Row → List Row → Type 0
HaveTables program first second rows others = HasTable program first rows × HasTable program second others

-- what is said of the rows of two trace tables; its line was written
pub record IsPairedUnder (plan : PlanParts) (first second : List ℕ) (old new : Option (List ℕ)) (said : Paired) : Type 0 where
  pub rows : List Row
  pub others : List Row
  pub have_tables : HaveTables plan.program first second rows others
  pub right : IsPairing plan rows others said
  pub written : Appends old new (line_of_pair plan.program said)

-- what is said under the one plan of the first two texts
abbrev pub IsPaired : List ℕ → List ℕ → List ℕ → List ℕ → Option (List ℕ) → Option (List ℕ) → Paired → Type 0
IsPaired program externals first second old new said = OfOnly (IsPlanOf program externals) (λ plan. IsPairedUnder plan first second old new said)

-- both traces are accepted and have the same runs
abbrev pub SaysSame : Paired → Type 0
SaysSame (paired.First b) = ⊥
SaysSame (paired.Second b) = ⊥
SaysSame (paired.Same runs tags) = Unit {0}
SaysSame (paired.Differ g r) = ⊥
