-- What a reader asks next: statements beside those that are enough for a breach.
use Rattle.std.specs.Prelude.{◌≡◌, ◌≢◌, ℕ, ◌+◌, ◌<◌, Bool, true, false, List, length, Some, slice_get}
use Rattle.lft_tag.specs.{declared.Tag.Tag, Tags.Before}
use Rattle.lft_ir.specs.{Parts.{Parts, inputs}, Origins.Origin}
use Rattle.lft_ir.specs.declared.parts.{Action.Action as ActionOf, Name.{Name, TheVariants.{Port, Action}}, Reaction.Reaction, Trigger.Trigger}
use Rattle.lft_ir.specs.declared.steps.row.Row.{Row}
use Rattle.lft_graph.specs.Precedence.{Precedes}
use Rattle.lft_model.specs.{Plans.PlanParts, Presence.{stop, asked, Occurs}, Runs.{start_row, end_row, Ran, inputs_of, effects_of}}
use Rattle.lft_races.specs.{Runs.{StartsAt, IsOpenSince}, Across.IsOpenAcross}
use Rattle.lft_facts.specs.declared.facts.{ThingKind.ThingKind, Reason.Reason}
use Rattle.lft_facts.specs.declared.facts.ThingKind.TheVariants as kind
use Rattle.lft_facts.specs.declared.facts.Reason.TheVariants as reason

-- x is present at h, which isn't g, and nowhere between the two
pub record IsNearest (plan : PlanParts) (t : List Row) (g : Tag) (x : Trigger) (h : Tag) : Type 0 where
  pub present : Occurs plan t h x
  pub apart : ¬ (h ≡ g)
  pub none_before : (k : Tag) → Before h k → Before k g → ¬ Occurs plan t k x
  pub none_after : (k : Tag) → Before g k → Before k h → ¬ Occurs plan t k x

-- r has no run at g, and precedes the next reaction all the same
pub record IsPassedBy (plan : PlanParts) (t : List Row) (g : Tag) (r next : ℕ) : Type 0 where
  pub none : ¬ Ran t g r
  pub precedes : Precedes plan.program r next

-- of the runs of r at tags before g the last is at h, and starts in the row at place p
pub record IsRunBefore (t : List Row) (g : Tag) (r : ℕ) (h : Tag) (p : ℕ) : Type 0 where
  pub starts : StartsAt t h r p
  pub before : Before h g
  pub none_between : (k : Tag) → Before h k → Before k g → ¬ Ran t k r

-- of the runs of r at tags after g the first is at h, and starts in the row at place p
pub record IsRunAfter (t : List Row) (g : Tag) (r : ℕ) (h : Tag) (p : ℕ) : Type 0 where
  pub starts : StartsAt t h r p
  pub after : Before g h
  pub none_between : (k : Tag) → Before g k → Before k h → ¬ Ran t k r

-- the row at place i is the last of all and at g, and the stop is s
pub record IsLastRow (plan : PlanParts) (t : List Row) (i : ℕ) (g s : Tag) : Type 0 where
  pub row : Row
  pub is_row : slice_get t i ≡ Some row
  pub last : length t ≡ i + 1
  pub tag_is : row.tag ≡ g
  pub is_stop : stop plan t ≡ s

-- the stop is g, as the external inputs say
pub record IsGivenStop (plan : PlanParts) (t : List Row) (g : Tag) : Type 0 where
  pub is_stop : stop plan t ≡ g
  pub given : plan.externals.stop ≡ g

-- the stop is g, and the row at place i asks for it
pub record IsAskedStop (plan : PlanParts) (t : List Row) (g : Tag) (i : ℕ) : Type 0 where
  pub row : Row
  pub is_row : slice_get t i ≡ Some row
  pub is_stop : stop plan t ≡ g
  pub asks : asked row.tag row.step ≡ Some g

-- the worker of the row at place i ended the run of that row in the one at place k before it
pub record EndedIn (t : List Row) (i k : ℕ) : Type 0 where
  pub row : Row
  pub is_row : slice_get t i ≡ Some row
  pub before : k < i
  pub ends : slice_get t k ≡ Some (end_row row.worker row.tag row.reaction)

-- at the row at place i its worker has a run open, which it started in the one at place j
pub record WorkerHasOpen (t : List Row) (i j : ℕ) : Type 0 where
  pub row : Row
  pub is_row : slice_get t i ≡ Some row
  pub open_since : IsOpenSince t i row.worker j

-- at the row at place i another worker has the run of that row open, which it started in the one at place j
pub record IsOpenOn (t : List Row) (i j : ℕ) : Type 0 where
  pub row : Row
  pub is_row : slice_get t i ≡ Some row
  pub worker : ℕ
  pub other : worker ≢ row.worker
  pub starts : slice_get t j ≡ Some (start_row worker row.tag row.reaction)
  pub open_since : IsOpenSince t i worker j

-- the row at place j starts the run of the one at place i before it
pub record StartsIn (t : List Row) (i j : ℕ) : Type 0 where
  pub row : Row
  pub is_row : slice_get t i ≡ Some row
  pub behind : i < j
  pub starts : StartsAt t row.tag row.reaction j

-- the reaction has these inputs
pub record HasInputs (program : Parts) (r : ℕ) (names : List Name) : Type 0 where
  pub reaction : Reaction
  pub is_reaction : slice_get program.reactions r ≡ Some reaction
  pub are : inputs reaction ≡ names

-- the reaction has these effects
pub record HasEffects (program : Parts) (r : ℕ) (names : List Name) : Type 0 where
  pub reaction : Reaction
  pub is_reaction : slice_get program.reactions r ≡ Some reaction
  pub are : reaction.effects ≡ names

-- the action is a physical one, or a logical one
abbrev pub IsActionOfKind : Parts → ℕ → Bool → Type 0
IsActionOfKind program a physical = (action : ActionOf) × (slice_get program.actions a ≡ Some action) × (action.physical ≡ physical)

-- the name is of a thing of that kind
abbrev pub IsThingOfKind : Parts → Name → ThingKind → Type 0
IsThingOfKind program (Port p) kind.Port = p < length program.ports
IsThingOfKind program (Action a) kind.Logical = IsActionOfKind program a false
IsThingOfKind program (Action a) kind.Physical = IsActionOfKind program a true
IsThingOfKind program (Port p) kind.Logical = ⊥
IsThingOfKind program (Port p) kind.Physical = ⊥
IsThingOfKind program (Action a) kind.Port = ⊥

-- port o, another one, is the origin of port p
pub record IsFedBy (program : Parts) (p o : ℕ) : Type 0 where
  pub delays : List ℕ
  pub is_origin : Origin program p o delays
  pub other : o ≢ p

-- the row at place k behind the one at place i ends a run of its reaction, by another worker or at another tag
pub record EndsOther (t : List Row) (i k : ℕ) : Type 0 where
  pub row : Row
  pub end : Row
  pub is_row : slice_get t i ≡ Some row
  pub is_end : slice_get t k ≡ Some (end_row end.worker end.tag row.reaction)
  pub behind : i < k
  pub other : end.worker ≡ row.worker → end.tag ≡ row.tag → ⊥

-- the row at place k is the last of the worker of the one at place i
pub record IsLastOfWorker (t : List Row) (i k : ℕ) : Type 0 where
  pub row : Row
  pub last : Row
  pub is_row : slice_get t i ≡ Some row
  pub is_last : slice_get t k ≡ Some last
  pub of_worker : last.worker ≡ row.worker
  pub none_later : (j : ℕ) (later : Row) → k < j → slice_get t j ≡ Some later → later.worker ≢ row.worker

-- the row at place k behind the one at place i is at a later tag, and none between them is
pub record IsFirstLater (t : List Row) (i k : ℕ) : Type 0 where
  pub row : Row
  pub later : Row
  pub is_row : slice_get t i ≡ Some row
  pub is_later : slice_get t k ≡ Some later
  pub behind : i < k
  pub after : Before row.tag later.tag
  pub first : (m : ℕ) (x : Row) → i < m → m < k → slice_get t m ≡ Some x → ¬ Before row.tag x.tag

-- the reason holds of the plan and the rows
abbrev pub IsReason : PlanParts → List Row → Reason → Type 0
IsReason plan t (reason.Nearest g x h) = IsNearest plan t g x h
IsReason plan t (reason.PassedBy g r next) = IsPassedBy plan t g r next
IsReason plan t (reason.NeverRuns r) = (g : Tag) → ¬ Ran t g r
IsReason plan t (reason.RunBefore g r h p) = IsRunBefore t g r h p
IsReason plan t (reason.RunAfter g r h p) = IsRunAfter t g r h p
IsReason plan t (reason.LastRow i g s) = IsLastRow plan t i g s
IsReason plan t (reason.StopGiven g) = IsGivenStop plan t g
IsReason plan t (reason.StopAsked g i) = IsAskedStop plan t g i
IsReason plan t (reason.EndedIn i k) = EndedIn t i k
IsReason plan t (reason.HasOpen i j) = WorkerHasOpen t i j
IsReason plan t (reason.OpenOn i j) = IsOpenOn t i j
IsReason plan t (reason.StartsIn i j) = StartsIn t i j
IsReason plan t (reason.Inputs r) = HasInputs plan.program r (inputs_of plan.program r)
IsReason plan t (reason.Effects r) = HasEffects plan.program r (effects_of plan.program r)
IsReason plan t (reason.KindOf n k) = IsThingOfKind plan.program n k
IsReason plan t (reason.FedBy p o) = IsFedBy plan.program p o
IsReason plan t (reason.EndsOther i k) = EndsOther t i k
IsReason plan t (reason.LastOfWorker i k) = IsLastOfWorker t i k
IsReason plan t (reason.OpenAcross i j k) = IsOpenAcross t i j k
IsReason plan t (reason.LaterTag i k) = IsFirstLater t i k
