-- What explains a breach.
use Rattle.std.specs.Prelude.{◌≡◌, ℕ, Bool, List}
use Rattle.lft_ir.specs.declared.steps.row.Row.{Row}
use Rattle.lft_model.specs.{declared.breach.Breach.Breach, Breaches.First, Plans.PlanParts}
use Rattle.lft_races.specs.Races.{EndLater, StandBefore}
use Rattle.lft_facts.specs.{declared.facts.Fact.Fact, Facts.AreFacts, Enough.{Proves, AreOwn, TellsRace}}
use Rattle.lft_report.specs.Told.{told}

-- the text tells facts that are true of the plan and the rows, they are enough for the breach, and those whose words leave out a tag, a run or a row are of its own; a race before it is told. They are enough where all is told: else of each part the first 60 lines are, and how many others there are
pub record Explains (all : Bool) (plan : PlanParts) (t : List Row) (b : Breach) (text : List ℕ) : Type 0 where
  pub facts : List Fact
  pub holds : AreFacts plan t facts
  pub enough : Proves facts b
  pub own : AreOwn b facts
  pub race : TellsRace plan t b facts
  pub is_told : text ≡ told all plan.program t facts

-- all runs that start before the first breach of a trace end: so the race that is told is told in any case
abbrev pub RaceLaw : PlanParts → Type 0
RaceLaw plan = (t : List Row) (b : Breach) (n : ℕ) → First plan t b → StandBefore t b n → EndLater t n
