-- The ten rules, and the first breach.
use Rattle.std.specs.Prelude.{◌≡◌, ◌≢◌, ℕ, ◌+◌, ◌<◌, ◌≤◌, ◌⊎◌, ◌↔◌, List, Option, Some, None, slice_get, Contains, unwrap_or, false}
use Rattle.lft_tag.specs.{declared.Tag.Tag, Tags.{Before, UpTo}}
use Rattle.lft_ir.specs.Parts.{Parts}
use Rattle.lft_ir.specs.declared.parts.{Value.Value, Name.{Name, TheVariants.{Port, Action}}, Action.Action as ActionOf}
use Rattle.lft_ir.specs.declared.steps.row.{Row.Row, Step.{Step, TheVariants.{Start, Read, Write, Schedule, Stop, End}}}
use Rattle.lft_model.specs.{declared.breach.Breach.Breach, Plans.PlanParts, Presence.{stop, TriggeredUntil, Inputs, Collision}}
use Rattle.lft_model.specs.Runs.{start_row, end_row, Ran, inputs_of, effects_of, reads_at}
use Rattle.lft_graph.specs.Precedence.{Precedes}

-- worker w has an open run of r at g before place i: a start row, and no end row between the two
pub record IsOpen (t : List Row) (i : ℕ) (w : ℕ) (g : Tag) (r : ℕ) : Type 0 where
  pub start : ℕ
  pub before : start < i
  pub starts : slice_get t start ≡ Some (start_row w g r)
  pub not_ended : (k : ℕ) → start < k → k < i → ¬ (slice_get t k ≡ Some (end_row w g r))

-- rule 1: an earlier row has a greater tag
abbrev pub IsLate : List Row → ℕ → Row → Type 0
IsLate t i row = (j : ℕ) × (earlier : Row) × (j < i) × (slice_get t j ≡ Some earlier) × Before row.tag earlier.tag

-- the tag and the reaction have a start row before place i
abbrev pub WasStarted : List Row → ℕ → Tag → ℕ → Type 0
WasStarted t i g r = (j w : ℕ) × (j < i) × (slice_get t j ≡ Some (start_row w g r))

-- rule 3: a start whose tag and reaction were started before, or whose worker has an open run; another row without an open run of its worker, tag and reaction
abbrev pub IsOutOfOrder : List Row → ℕ → Row → Step → Type 0
IsOutOfOrder t i row Start = WasStarted t i row.tag row.reaction ⊎ ((g : Tag) × (r : ℕ) × IsOpen t i row.worker g r)
IsOutOfOrder t i row (Read n v) = ¬ IsOpen t i row.worker row.tag row.reaction
IsOutOfOrder t i row (Write n v) = ¬ IsOpen t i row.worker row.tag row.reaction
IsOutOfOrder t i row (Schedule n v d) = ¬ IsOpen t i row.worker row.tag row.reaction
IsOutOfOrder t i row Stop = ¬ IsOpen t i row.worker row.tag row.reaction
IsOutOfOrder t i row End = ¬ IsOpen t i row.worker row.tag row.reaction

-- an effect that may be written is a port, and one that may be scheduled is a logical action
abbrev pub MayWrite : Parts → ℕ → Name → Type 0
MayWrite program r (Port p) = Contains (effects_of program r) (Port p)
MayWrite program r (Action a) = ⊥

abbrev pub MaySchedule : Parts → ℕ → Name → Type 0
MaySchedule program r (Port p) = ⊥
MaySchedule program r (Action a) = Contains (effects_of program r) (Action a) × ((action : ActionOf) × (slice_get program.actions a ≡ Some action) × (action.physical ≡ false))

-- a read row of the tag and the reaction before place i names n
abbrev pub WasRead : List Row → ℕ → Tag → ℕ → Name → Type 0
WasRead t i g r n = (j w : ℕ) × (v : Value) × (j < i) × (slice_get t j ≡ Some (record { worker = w; tag = g; reaction = r; step = Read n v }))

-- rule 4: a name that the reaction didn't declare for the step, or that it read before
abbrev pub IsUndeclared : Parts → List Row → ℕ → Row → Step → Type 0
IsUndeclared program t i row (Read n v) = (¬ Contains (inputs_of program row.reaction) n) ⊎ WasRead t i row.tag row.reaction n
IsUndeclared program t i row (Write n v) = ¬ MayWrite program row.reaction n
IsUndeclared program t i row (Schedule n v d) = ¬ MaySchedule program row.reaction n
IsUndeclared program t i row Start = ⊥
IsUndeclared program t i row Stop = ⊥
IsUndeclared program t i row End = ⊥

-- rule 5: a start row without a later end row of its worker, tag and reaction
abbrev pub IsUnended : List Row → ℕ → Row → Type 0
IsUnended t i row = (row.step ≡ Start) × ((k : ℕ) → i < k → ¬ (slice_get t k ≡ Some (end_row row.worker row.tag row.reaction)))

-- the row at place i breaks rule k in t, where the stop tag is last
abbrev pub BreaksRowUntil : Tag → PlanParts → List Row → ℕ → Row → ℕ → Type 0
BreaksRowUntil last plan t i row k =
    (k ≡ 1) × IsLate t i row
    ⊎ (k ≡ 2) × Before last row.tag
    ⊎ (k ≡ 3) × IsOutOfOrder t i row row.step
    ⊎ (k ≡ 4) × IsUndeclared plan.program t i row row.step
    ⊎ (k ≡ 5) × IsUnended t i row

-- a row breaks one of the rules 1 to 5; the row at place 0 stands in line 2 of the table
pub record RowBreachUntil (last : Tag) (plan : PlanParts) (t : List Row) (b : Breach) : Type 0 where
  pub place : ℕ
  pub row : Row
  pub is_row : slice_get t place ≡ Some row
  pub breaks : BreaksRowUntil last plan t place row b.rule
  pub tag_is : b.tag ≡ row.tag
  pub reaction_is : b.reaction ≡ Some row.reaction
  pub row_is : b.row ≡ place + 2

-- the end row of a at g stands before the start row of r at g
pub record EndsBefore (t : List Row) (g : Tag) (a r : ℕ) : Type 0 where
  pub ended_at : ℕ
  pub started_at : ℕ
  pub worker : ℕ
  pub other : ℕ
  pub ends : slice_get t ended_at ≡ Some (end_row worker g a)
  pub starts : slice_get t started_at ≡ Some (start_row other g r)
  pub before : ended_at < started_at

-- rule 9: a reaction that precedes r ran at g too, and did not end before r started
pub record IsTooEarly (plan : PlanParts) (t : List Row) (g : Tag) (r : ℕ) : Type 0 where
  pub earlier : ℕ
  pub precedes : Precedes plan.program earlier r
  pub earlier_ran : Ran t g earlier
  pub not_ended : ¬ EndsBefore t g earlier r

-- reaction r breaks rule k at g in t
abbrev pub BreaksTagUntil : Tag → PlanParts → List Row → Tag → ℕ → ℕ → Type 0
BreaksTagUntil last plan t g r k =
    (k ≡ 7) × TriggeredUntil last plan t g r × (¬ Ran t g r)
    ⊎ (k ≡ 8) × Ran t g r × (¬ TriggeredUntil last plan t g r)
    ⊎ (k ≡ 9) × Ran t g r × IsTooEarly plan t g r
    ⊎ (k ≡ 10) × Ran t g r × (¬ Inputs plan t g r (reads_at plan t g r))

-- a collision, or a reaction that breaks one of the rules 7 to 10
abbrev pub BreaksAtUntil : Tag → PlanParts → List Row → Tag → Option ℕ → ℕ → Type 0
BreaksAtUntil last plan t g None k = (k ≡ 6) × Collision plan t g
BreaksAtUntil last plan t g (Some r) k = BreaksTagUntil last plan t g r k

-- one of the rules 6 to 10 is broken at a tag up to the stop
pub record TagBreachUntil (last : Tag) (plan : PlanParts) (t : List Row) (b : Breach) : Type 0 where
  pub in_time : UpTo b.tag last
  pub breaks : BreaksAtUntil last plan t b.tag b.reaction b.rule
  pub row_is : b.row ≡ 0

-- a trace that breaks no rule, where the stop tag is last
pub record LegalUntil (last : Tag) (plan : PlanParts) (t : List Row) : Type 0 where
  pub rows : (b : Breach) → ¬ RowBreachUntil last plan t b
  pub tags : (b : Breach) → ¬ TagBreachUntil last plan t b

-- of two row breaches the one of the lesser row, then of the lesser rule
abbrev pub RowOrder : Breach → Breach → Type 0
RowOrder b c = (b.row < c.row) ⊎ ((b.row ≡ c.row) × (b.rule ≤ c.rule))

-- of two tag breaches the one of the lesser tag, then of the lesser rule, then of the lesser reaction
abbrev pub TagOrder : Breach → Breach → Type 0
TagOrder b c = Before b.tag c.tag ⊎ ((b.tag ≡ c.tag) × ((b.rule < c.rule) ⊎ ((b.rule ≡ c.rule) × (unwrap_or b.reaction 0 ≤ unwrap_or c.reaction 0))))

-- b is the first breach: of the rows, or where no row breaks a rule, of the tags
abbrev pub FirstUntil : Tag → PlanParts → List Row → Breach → Type 0
FirstUntil last plan t b =
    RowBreachUntil last plan t b × ((c : Breach) → RowBreachUntil last plan t c → RowOrder b c)
    ⊎ ((c : Breach) → ¬ RowBreachUntil last plan t c) × TagBreachUntil last plan t b × ((c : Breach) → TagBreachUntil last plan t c → TagOrder b c)

abbrev pub RowBreach : PlanParts → List Row → Breach → Type 0
RowBreach plan t b = RowBreachUntil (stop plan t) plan t b

abbrev pub TagBreach : PlanParts → List Row → Breach → Type 0
TagBreach plan t b = TagBreachUntil (stop plan t) plan t b

-- a trace that breaks no rule: one that is legal up to its own stop
abbrev pub Legal : PlanParts → List Row → Type 0
Legal plan t = LegalUntil (stop plan t) plan t

-- the first breach of a trace, with its own stop
abbrev pub First : PlanParts → List Row → Breach → Type 0
First plan t b = FirstUntil (stop plan t) plan t b

-- for rows without a stop row, to be legal and the first breach are those with the external stop
abbrev pub NoRequestLaw : PlanParts → Type 0
NoRequestLaw plan = (t : List Row) → ((row : Row) → Contains t row → row.step ≢ Stop) → (Legal plan t ↔ LegalUntil plan.externals.stop plan t) × ((b : Breach) → First plan t b ↔ FirstUntil plan.externals.stop plan t b)
