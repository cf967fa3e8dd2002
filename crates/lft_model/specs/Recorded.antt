-- A recording so far, and the histories of runs.
use Rattle.std.specs.Prelude.{◌≡◌, ℕ, ◌<◌, ◌⊎◌, ◌==◌, cond, List, [], ◌∷◌, ◌++◌, length, Option, Some, None, ℤ, pos, slice_get, take, filter_map, map, zip, unwrap_or, option_map}
use Rattle.std.specs.List.{last_or}
use Rattle.lft_ir.specs.Parts.{Parts}
use Rattle.lft_ir.specs.declared.parts.{Reaction.Reaction, Value.Value}
use Rattle.lft_ir.specs.declared.steps.row.{Row.Row, Step.{Step, TheVariants.{Start, Read, Write, Schedule, Stop, End}}}
use Rattle.lft_tag.specs.{declared.Tag.Tag, Tags.Before}
use Rattle.lft_model.specs.{declared.breach.Breach.Breach, Plans.PlanParts, Presence.Inputs}
use Rattle.lft_model.specs.Runs.{Run, start_row, end_row, Ran, by_ends, inputs_of, read_step, steps_of, reads_at, answer_at}
use Rattle.lft_model.specs.{Breaches.{MayWrite, MaySchedule, RowBreach, Legal}, OneWorker.{Path, NoClash, Ready, rows}}

-- a run of a reaction's instance before (g, r), by tag and then by reaction number
pub record IsEarlier (plan : PlanParts) (t : List Row) (g : Tag) (r : ℕ) (h : Tag) (a : ℕ) : Type 0 where
  pub reaction : Reaction
  pub other : Reaction
  pub is_reaction : slice_get plan.program.reactions r ≡ Some reaction
  pub is_other : slice_get plan.program.reactions a ≡ Some other
  pub same_instance : other.instance ≡ reaction.instance
  pub ran : Ran t h a
  pub earlier : Before h g ⊎ ((h ≡ g) × (a < r))

-- two traces have the same history of r before g: the same earlier runs of its instance, with the same reads
pub record SameHistory (plan : PlanParts) (t s : List Row) (g : Tag) (r : ℕ) : Type 0 where
  pub there : (h : Tag) (a : ℕ) → IsEarlier plan t g r h a → Ran s h a × (reads_at plan t h a ≡ reads_at plan s h a)
  pub back : (h : Tag) (a : ℕ) → IsEarlier plan s g r h a → Ran t h a × (reads_at plan t h a ≡ reads_at plan s h a)

-- two traces have the same runs
pub record SameRuns (plan : PlanParts) (t s : List Row) : Type 0 where
  pub there : (g : Tag) (r : ℕ) → Ran t g r → Ran s g r
  pub back : (g : Tag) (r : ℕ) → Ran s g r → Ran t g r
  pub reads : (g : Tag) (r : ℕ) → Ran t g r → reads_at plan t g r ≡ reads_at plan s g r
  pub answers : (g : Tag) (r : ℕ) → Ran t g r → answer_at plan t g r ≡ answer_at plan s g r

-- runs with equal tag, reaction, history and reads have equal answers
abbrev pub AnswerAlike : PlanParts → List Row → List Row → Type 0
AnswerAlike plan t s = (g : Tag) (r : ℕ) → Ran t g r → Ran s g r → SameHistory plan t s g r → reads_at plan t g r ≡ reads_at plan s g r → answer_at plan t g r ≡ answer_at plan s g r

-- two legal traces of one plan whose reactions answer alike have the same runs
abbrev pub AgreeLaw : PlanParts → Type 0
AgreeLaw plan = (t s : List Row) → Legal plan t → Legal plan s → AnswerAlike plan t s → SameRuns plan t s

-- a recording so far: no row breaks the rules 1 to 4, the ended runs in order of their ends are a path without a collision up to their stop, and each run was ready when it started and reads the inputs that the runs ended before it gave it
pub record SoFar (plan : PlanParts) (t : List Row) : Type 0 where
  pub rows_well : (b : Breach) → b.rule < 5 → ¬ RowBreach plan t b
  pub path : Path plan (by_ends plan t)
  pub no_clash : NoClash plan (by_ends plan t)
  pub started : (i w : ℕ) (g : Tag) (r : ℕ) → slice_get t i ≡ Some (start_row w g r) → Ready plan (by_ends plan (take i t)) g r × Inputs plan (rows plan (by_ends plan (take i t))) g r (reads_at plan t g r)

-- a write, a scheduling or a stop request
abbrev pub IsAnswer : Step → Type 0
IsAnswer Start = ⊥
IsAnswer (Read n v) = ⊥
IsAnswer (Write n v) = Unit {0}
IsAnswer (Schedule n v d) = Unit {0}
IsAnswer Stop = Unit {0}
IsAnswer End = ⊥

-- each answered row stands before the end row of its run: an open run has only its start and its reads
abbrev pub OnlyEndedAnswer : List Row → Type 0
OnlyEndedAnswer t = (i : ℕ) (x : Row) → slice_get t i ≡ Some x → IsAnswer x.step → (k : ℕ) × (i < k) × (slice_get t k ≡ Some (end_row x.worker x.tag x.reaction))

-- a step that a reaction may make between its reads and its end
abbrev pub MayAnswer : PlanParts → ℕ → Step → Type 0
MayAnswer plan r (Write n v) = MayWrite plan.program r n
MayAnswer plan r (Schedule n v d) = MaySchedule plan.program r n
MayAnswer plan r Stop = Unit {0}
MayAnswer plan r Start = ⊥
MayAnswer plan r (Read n v) = ⊥
MayAnswer plan r End = ⊥

-- the row of a step of the run of r at g, by worker w
abbrev pub run_row : ℕ → Tag → ℕ → Step → Row
run_row w g r s = record { worker = w; tag = g; reaction = r; step = s }

-- the steps of a run that is begun: its start, then a read of each input that is shown present
abbrev pub begun_steps : PlanParts → ℕ → List (Option Value) → List Step
begun_steps plan r shown = Start ∷ filter_map read_step (zip (inputs_of plan.program r) shown)

-- the rows of a run that is begun
abbrev pub begun_rows : PlanParts → ℕ → Tag → ℕ → List (Option Value) → List Row
begun_rows plan w g r shown = map (run_row w g r) (begun_steps plan r shown)

-- the rows of a run that is committed: its steps, then its end
abbrev pub committed_rows : ℕ → Tag → ℕ → List Step → List Row
committed_rows w g r steps = map (run_row w g r) (steps ++ End ∷ [])

-- the instance of a reaction
abbrev pub instance_of : Parts → ℕ → ℕ
instance_of program r = unwrap_or (option_map (λ x. x.instance) (slice_get program.reactions r)) 0

-- a step that a body answered: a write, a scheduling or a stop request
abbrev pub answered : Step → Option Step
answered (Write n v) = Some (Write n v)
answered (Schedule n v d) = Some (Schedule n v d)
answered Stop = Some Stop
answered Start = None
answered (Read n v) = None
answered End = None

-- the write, schedule and stop steps of the run of r at g, in order
abbrev pub answered_steps : List Row → Tag → ℕ → List Step
answered_steps t g r = filter_map answered (steps_of t g r)

-- the word that an ended run left, where it is a run of the instance
abbrev pub word_left : Parts → ℕ → Run × (ℤ × ℤ) → Option ℤ
word_left program instance x = cond (instance_of program x.0.reaction == instance) (Some x.1.1) None

-- the word of an instance after some ended runs: 0 before the first
abbrev pub word_after : Parts → ℕ → List Run → List (ℤ × ℤ) → ℤ
word_after program instance runs states = unwrap_or (last_or None (filter_map (word_left program instance) (zip runs states))) (pos 0)

-- a law of bodies: reaction, tag, word before, reads, word after, steps
abbrev pub BodyLaw : Type 1
BodyLaw = ℕ → Tag → ℤ → List (Option Value) → ℤ → List Step → Type 0

-- the pairs of words (before, after) of the ended runs, in order of their ends: each instance hands its word on, and each run meets the law
pub record Follows (plan : PlanParts) (law : BodyLaw) (t : List Row) (states : List (ℤ × ℤ)) : Type 0 where
  pub one_each : length states ≡ length (by_ends plan t)
  pub handed_on : (k : ℕ) (u : Run) (words : ℤ × ℤ) → slice_get (by_ends plan t) k ≡ Some u → slice_get states k ≡ Some words → words.0 ≡ word_after plan.program (instance_of plan.program u.reaction) (take k (by_ends plan t)) (take k states)
  pub meets : (k : ℕ) (u : Run) (words : ℤ × ℤ) → slice_get (by_ends plan t) k ≡ Some u → slice_get states k ≡ Some words → law u.reaction u.tag words.0 u.reads words.1 (answered_steps t u.tag u.reaction)
