-- Inside: what `commit` is given and does, and why it refuses.
use Rattle.std.specs.Prelude.{◌<◌, List, length, Option, Some, None}
use Rattle.lft_tag.specs.declared.Tag.{Tag}
use Rattle.lft_ir.specs.declared.steps.row.Row.{Row}
use Rattle.lft_model.specs.Plans.{PlanParts}
use Rattle.lft_scheduler.specs.Collisions.{CollidesFirst, IsClean}
use Rattle.lft_pool.specs.declared.stop.Stop.{Stop}
use Rattle.lft_pool.specs.declared.stop.Stop.TheVariants.{NoBody, Collision, UndeclaredEffect, TooManyRuns, Stranger, BodyNoMemory, NoMemory, NoWorker, PlanChanged, BadWorkers, TooManyRows, LimitTag}

-- the rows have that first collision, or none
abbrev pub HasClash : PlanParts → List Row → Option Tag → Type 0
HasClash plan t (Some g) = CollidesFirst plan t g
HasClash plan t None = IsClean plan t

-- why rows with an answer are refused
abbrev pub RefusalCause : PlanParts → List Row → Stop → Type 0
RefusalCause plan t (Collision g) = CollidesFirst plan t g
RefusalCause plan t TooManyRows = IsClean plan t × (4000000 < length t)
RefusalCause plan t NoMemory = ⊥
RefusalCause plan t LimitTag = ⊥
RefusalCause plan t (UndeclaredEffect r) = ⊥
RefusalCause plan t (NoBody r) = ⊥
RefusalCause plan t TooManyRuns = ⊥
RefusalCause plan t Stranger = ⊥
RefusalCause plan t BodyNoMemory = ⊥
RefusalCause plan t NoWorker = ⊥
RefusalCause plan t PlanChanged = ⊥
RefusalCause plan t BadWorkers = ⊥
