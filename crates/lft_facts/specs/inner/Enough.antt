-- Inside: what some facts give, of whatever plan and rows show them.
use Rattle.std.specs.Prelude.{◌≡◌, ℕ, List, ◌++◌, Option, Some, slice_get, Contains, All}
use Rattle.lft_tag.specs.declared.Tag.{Tag}
use Rattle.lft_ir.specs.declared.{parts.Trigger.Trigger, steps.row.Row.Row}
use Rattle.lft_graph.specs.Precedence.{Direct}
use Rattle.lft_model.specs.{declared.breach.Breach.Breach, Plans.PlanParts, Presence.{Occurs, Collision}, inner.Breaches.{BreaksRow, BreaksAt}}
use Rattle.lft_rows.specs.Answers.Answers.{KeepsRows}
use Rattle.lft_facts.specs.{declared.facts.{Fact.Fact, Cause.Cause, RowFact.RowFact}, Facts.{IsShown, CauseHolds, IsRowFact, AreFacts, AreShown}, Enough.AreOwn}

-- of whatever plan and rows show the facts: where no row breaks one of the rules 1 to 5, the rule is broken at g
abbrev pub Gives : List Fact → Tag → Option ℕ → ℕ → Type 0
Gives facts g o k = (plan : PlanParts) (t : List Row) → AreShown plan t facts → KeepsRows plan t → BreaksAt plan t g o k

-- they are so of whatever breach at g of these reactions
abbrev pub AreOwnAt : Tag → Option ℕ → List Fact → Type 0
AreOwnAt g o facts = (b : Breach) → b.tag ≡ g → b.reaction ≡ o → AreOwn b facts

-- facts that hold, and are of the breach where their words need it, stand behind others
pub record Adds (b : Breach) (plan : PlanParts) (t : List Row) (old new : List Fact) : Type 0 where
  pub more : List Fact
  pub is : new ≡ old ++ more
  pub holds : AreFacts plan t more
  pub own : AreOwn b more

-- such facts, and among them each of the old ones
pub record Extends (b : Breach) (plan : PlanParts) (t : List Row) (old new : List Fact) : Type 0 where
  pub holds : AreFacts plan t new
  pub kept : All (Contains new) old
  pub own : AreOwn b new

-- of whatever plan and rows the fact holds: the row at place i breaks the rule
abbrev pub GivesRow : RowFact → ℕ → ℕ → Type 0
GivesRow f i k = (plan : PlanParts) (t : List Row) → IsRowFact plan t f → (row : Row) × (slice_get t i ≡ Some row) × BreaksRow plan t i row k

-- of whatever plan and rows the cause holds: the trigger is present at g
abbrev pub GivesTrigger : Cause → Tag → Trigger → Type 0
GivesTrigger c g x = (plan : PlanParts) (t : List Row) → CauseHolds plan t c → Occurs plan t g x

-- of whatever plan and rows show the fact: a directly precedes b
abbrev pub GivesDirect : Fact → ℕ → ℕ → Type 0
GivesDirect f a b = (plan : PlanParts) (t : List Row) → IsShown plan t f → Direct plan.program a b

-- of whatever plan and rows the two causes hold: some port or action has two causes at g
abbrev pub GivesClash : Cause → Cause → Tag → Type 0
GivesClash c d g = (plan : PlanParts) (t : List Row) → CauseHolds plan t c → CauseHolds plan t d → Collision plan t g
