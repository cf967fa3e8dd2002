-- What is sure of rows before all of them are there.
use Rattle.std.specs.Prelude.{◌≡◌, ◌↔◌, ℕ, ◌≤◌, ◌⊎◌, List, ◌++◌, Some, slice_get, filter_map}
use Rattle.lft_tag.specs.{declared.Tag.Tag, Tags.{Before, UpTo, after, after_all}}
use Rattle.lft_ir.specs.{Origins.Origin, Steps.Inputs.ExternalInputs, declared.steps.row.Row.Row}
use Rattle.lft_model.specs.{declared.breach.Breach.Breach, Plans.PlanParts, Presence.{stop, written, scheduled, given, min_delay}}
use Rattle.lft_model.specs.Breaches.{RowBreach, TagBreach, TagBreachUntil, TagOrder, First, Legal}
use Rattle.lft_queue.specs.Coming.AtTag.{AreBefore}

-- the breach is sure once a row at the tag low is there: a row breaks one of the rules 1 to 4, a run before low has no end, or one of the rules 6 to 10 is broken before low
abbrev pub IsSure : PlanParts → List Row → Tag → Breach → Type 0
IsSure plan t low b = RowBreach plan t b × ((b.rule ≤ 4) ⊎ Before b.tag low) ⊎ TagBreach plan t b × Before b.tag low

-- nothing is broken so far, of tags before low
abbrev pub IsUnbroken : PlanParts → List Row → Tag → Type 0
IsUnbroken plan t low = (b : Breach) → ¬ IsSure plan t low b

-- the first breach at a tag before low, of the rules 6 to 10
pub record IsFirstBefore (plan : PlanParts) (t : List Row) (low : Tag) (b : Breach) : Type 0 where
  pub before : Before b.tag low
  pub breaks : TagBreach plan t b
  pub least : (c : Breach) → TagBreach plan t c → Before c.tag low → TagOrder b c

-- no row is before the tag
abbrev pub AreRowsFrom : List Row → Tag → Type 0
AreRowsFrom t low = (i : ℕ) (x : Row) → slice_get t i ≡ Some x → UpTo low x.tag

-- rows from low on change nothing of what the rules 6 to 10 ask for before low
abbrev pub FinishedLaw : PlanParts → Type 0
FinishedLaw plan = (d u : List Row) (low : Tag) (b : Breach) → AreRowsFrom u low → Before b.tag low → TagBreach plan (d ++ u) b ↔ TagBreach plan d b

-- what is told of the rows so far is the first breach of all rows, where none of these breaks one of the rules 1 to 5
abbrev pub ToldLaw : PlanParts → Type 0
ToldLaw plan = (d u : List Row) (low : Tag) (b : Breach) → AreRowsFrom u low → IsFirstBefore plan d low b → ((c : Breach) → ¬ RowBreach plan (d ++ u) c) → First plan (d ++ u) b

-- a row that breaks one of the rules 1 to 4 breaks it still, whatever comes behind
abbrev pub RowLaw : PlanParts → Type 0
RowLaw plan = (d u : List Row) (b : Breach) → b.rule ≤ 4 → RowBreach plan d b → RowBreach plan (d ++ u) b

-- once the stop is finished, nothing broken is the whole: the rows are legal
abbrev pub WholeLaw : PlanParts → Type 0
WholeLaw plan = (t : List Row) → IsUnbroken plan t (after (stop plan t) 0) ↔ Legal plan t

-- what is sure stays sure, whatever rows come from low on
abbrev pub SureLaw : PlanParts → Type 0
SureLaw plan = (d u : List Row) (low high : Tag) (b : Breach) → AreRowsFrom u low → UpTo low high → IsSure plan d low b → IsSure plan (d ++ u) high b

-- two lists of rows cause the same from low on: the same is scheduled for each tag from there on, the same is written wherever delays lead there
pub record CauseSame (plan : PlanParts) (d e : List Row) (low : Tag) : Type 0 where
  pub scheduled_same : (g : Tag) (a : ℕ) → UpTo low g → filter_map (scheduled g a (min_delay plan.program a)) d ≡ filter_map (scheduled g a (min_delay plan.program a)) e
  pub written_same : (h : Tag) (p o : ℕ) (delays : List ℕ) → Origin plan.program p o delays → UpTo low (after_all h delays) → filter_map (written h o) d ≡ filter_map (written h o) e

-- with any stop, rows before low may be dropped but for those that cause something from low on: nothing changes of what the rules 6 to 10 ask for from there on
abbrev pub DroppedLaw : PlanParts → Type 0
DroppedLaw plan = (last : Tag) (d e u : List Row) (low : Tag) (b : Breach) → AreBefore d low → AreBefore e low → CauseSame plan d e low → UpTo low b.tag → TagBreachUntil last plan (d ++ u) b ↔ TagBreachUntil last plan (e ++ u) b

-- the plan with other external inputs
abbrev pub with_inputs : PlanParts → ExternalInputs → PlanParts
with_inputs plan inputs = record { program = plan.program; externals = inputs }

-- other external inputs give the same before low, and the stop is the same or both are from low on
pub record GiveSame (plan : PlanParts) (inputs : ExternalInputs) (t : List Row) (low : Tag) : Type 0 where
  pub given_same : (h : Tag) (a : ℕ) → Before h low → filter_map (given h a) plan.externals.events ≡ filter_map (given h a) inputs.events
  pub stop_same : (stop plan t ≡ stop (with_inputs plan inputs) t) ⊎ UpTo low (stop plan t) × UpTo low (stop (with_inputs plan inputs) t)

-- external inputs may come later, up to the first row behind their tags: before low they change nothing
abbrev pub LaterInputsLaw : PlanParts → Type 0
LaterInputsLaw plan = (inputs : ExternalInputs) (t : List Row) (low : Tag) (b : Breach) → GiveSame plan inputs t low → Before b.tag low → TagBreach plan t b ↔ TagBreach (with_inputs plan inputs) t b
