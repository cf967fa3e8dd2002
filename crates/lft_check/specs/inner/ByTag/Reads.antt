-- What a run read, beside what is present.
use Rattle.std.specs.Prelude.{◌≡◌, ◌⊎◌, ℕ, List, Some, None, slice_get}
use Rattle.lft_tag.specs.declared.Tag.{Tag}
use Rattle.lft_ir.specs.{declared.{parts.{Value.Value, Name.Name, Reaction.Reaction}, steps.row.{Row.Row, Step.TheVariants.{Start, Read}}}, Parts.inputs}
use Rattle.lft_model.specs.{Plans.PlanParts, Presence.{Shows, IsPresent, At}, Runs.{read_of, steps_of}}

-- the run of r at g read of the name what is present there
abbrev pub IsRightRead : PlanParts → List Row → Tag → ℕ → Name → Type 0
IsRightRead plan t g r n = Shows plan t g n (read_of (steps_of t g r) n)

-- the name is present at g, and the run of r there didn't read it
abbrev pub IsMissed : PlanParts → List Row → Tag → ℕ → Name → Type 0
IsMissed plan t g r n = IsPresent plan t g n × (read_of (steps_of t g r) n ≡ None)

-- the run of r at g misses an input
abbrev pub MissesInput : PlanParts → List Row → Tag → ℕ → Type 0
MissesInput plan t g r = (x : Reaction) × (slice_get plan.program.reactions r ≡ Some x) × (k : ℕ) × (n : Name) × (slice_get (inputs x) k ≡ Some n) × IsMissed plan t g r n

-- a row at g that tells of a wrong read: its run starts and misses an input, or it reads what isn't present
abbrev pub TellsWrongRead : PlanParts → List Row → Tag → Row → Type 0
TellsWrongRead plan t g row = ((row.step ≡ Start) × MissesInput plan t g row.reaction) ⊎ ((n : Name) × (v : Value) × (row.step ≡ Read n v) × (¬ At plan t g n v))
