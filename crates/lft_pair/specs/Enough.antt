-- What some contrasts give, and that none is left out.
use Rattle.std.specs.Prelude.{◌≡◌, ◌≢◌, ℕ, ◌⊎◌, List, map, Contains, Option, Some, slice_get}
use Rattle.lft_tag.specs.declared.Tag.{Tag}
use Rattle.lft_ir.specs.declared.{parts.{Name.{Name, TheVariants.{Port, Action}}, Value.Value}, steps.row.{Row.Row, Step.Step}}
use Rattle.lft_model.specs.{Plans.PlanParts, Runs.{inputs_of, effects_of, answer_at, outcome_of, request_of}}
use Rattle.lft_pair.specs.{declared.contrasting.contrasts.{Placed.Placed, LastWrite.LastWrite, Scheduling.Scheduling, Contrast.Contrast}, Runs.placed_steps}
use Rattle.lft_pair.specs.Contrasts.{AreContrasts, IsWritten, IsScheduled, IsRequested}
use Rattle.lft_pair.specs.declared.contrasting.contrasts.Contrast.TheVariants as contrast

-- of whatever plan and traces they hold, r answers otherwise at g
abbrev pub GiveOther : List Contrast → Tag → ℕ → Type 0
GiveOther contrasts g r = (plan : PlanParts) (t s : List Row) → AreContrasts plan t s g r contrasts → answer_at plan t g r ≢ answer_at plan s g r

-- the contrast tells of what two runs answered for an effect
abbrev pub TellsOf : List Placed → List Placed → Name → Contrast → Type 0
TellsOf mine theirs (Port p) c = (first : Option LastWrite) × (second : Option LastWrite) × (c ≡ contrast.Written p first second) × IsWritten mine theirs p first second
TellsOf mine theirs (Action a) c = (k : ℕ) × (first : Option Scheduling) × (second : Option Scheduling) × (c ≡ contrast.Scheduled a k first second) × IsScheduled mine theirs a k first second

-- the contrast tells of the stop requests of two runs
abbrev pub TellsStop : List Placed → List Placed → Contrast → Type 0
TellsStop mine theirs c = (first : Option ℕ) × (second : Option ℕ) × (c ≡ contrast.Requested first second) × IsRequested mine theirs first second

-- the steps of a run
abbrev pub steps : List Placed → List Step
steps run = map (λ x. x.step) run

-- two runs answered the same for an effect
abbrev pub HaveSameOutcome : List Placed → List Placed → Name → Type 0
HaveSameOutcome mine theirs n = outcome_of (steps mine) n ≡ outcome_of (steps theirs) n

-- they did, or one of the contrasts tells of it
abbrev pub IsOutcomeTold : List Placed → List Placed → List Contrast → Name → Type 0
IsOutcomeTold mine theirs contrasts n = HaveSameOutcome mine theirs n ⊎ ((c : Contrast) × Contains contrasts c × TellsOf mine theirs n c)

-- both requested a stop or neither did, or one of the contrasts tells of it
abbrev pub IsStopTold : List Placed → List Placed → List Contrast → Type 0
IsStopTold mine theirs contrasts = (request_of (steps mine) ≡ request_of (steps theirs)) ⊎ ((c : Contrast) × Contains contrasts c × TellsStop mine theirs c)

-- each effect for which the runs of r at g answered otherwise is told of, and a stop request of one of them
pub record TellsAnswers (plan : PlanParts) (t s : List Row) (g : Tag) (r : ℕ) (contrasts : List Contrast) : Type 0 where
  pub effects : (n : Name) → Contains (effects_of plan.program r) n → IsOutcomeTold (placed_steps t g r) (placed_steps s g r) contrasts n
  pub stop : IsStopTold (placed_steps t g r) (placed_steps s g r) contrasts

-- each input of r is told of
abbrev pub TellsReads : PlanParts → ℕ → List Contrast → Type 0
TellsReads plan r contrasts = (k : ℕ) (n : Name) → slice_get (inputs_of plan.program r) k ≡ Some n → (read : Option Value) × Contains contrasts (contrast.Read k n read)

-- nothing is left out
pub record TellsAll (plan : PlanParts) (t s : List Row) (g : Tag) (r : ℕ) (contrasts : List Contrast) : Type 0 where
  pub answers : TellsAnswers plan t s g r contrasts
  pub reads : TellsReads plan r contrasts
