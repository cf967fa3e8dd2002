-- What `commit` is given and does, and why it refuses.
use Rattle.std.specs.Prelude.{◌≡◌, ℕ, ◌<◌, ◌++◌, ◌∷◌, List, length, Option, Result, IsErr, IfOk, []}
use Rattle.lft_tag.specs.declared.{Tag.Tag, NoMemory.NoMemory as Refused}
use Rattle.lft_ir.specs.declared.{parts.Value.Value, steps.row.Row.Row}
use Rattle.lft_model.specs.{Plans.PlanParts, Presence.{Triggered, Inputs}, Runs.{reads_at, by_ends}, OneWorker.rows, Breaches.IsOpen, Recorded.committed_rows}
use Rattle.lft_scheduler.specs.{Answering.{MayAll, HasLongDelay}, Collisions.{CollidesFirst, IsClean}}
use Rattle.lft_pool.specs.declared.bodies.{done.Done.Done, ticket.Ticket.Ticket}
use Rattle.lft_pool.specs.declared.stop.Stop.{Stop}
use Rattle.lft_pool.specs.declared.stop.Stop.TheVariants.{NoBody, Collision, UndeclaredEffect, TooManyRuns, Stranger, BodyNoMemory, NoMemory, NoWorker, PlanChanged, BadWorkers, TooManyRows, LimitTag}
use Rattle.lft_pool.specs.Books.{BookParts, word_now}

-- the run of the ticket is open, and has its word and its reads
pub record HasTicket (b : BookParts) (t : Ticket) : Type 0 where
  pub open_run : IsOpen b.rows (length b.rows) t.worker t.tag t.reaction
  pub word_is : t.state ≡ word_now b.plan b.rows b.states t.reaction
  pub reads_are : t.reads ≡ reads_at b.plan b.rows t.tag t.reaction

-- the rows with those of the answer
abbrev pub with_answer : BookParts → Ticket → Done → List Row
with_answer b t d = b.rows ++ committed_rows t.worker t.tag t.reaction d.steps

-- the run of the ticket has ended with the answer
pub record Committed (old new : BookParts) (t : Ticket) (d : Done) : Type 0 where
  pub had_ticket : HasTicket old t
  pub may : MayAll old.plan t.reaction d.steps
  pub book_is : new ≡ record old { rows = with_answer old t d; states = old.states ++ (t.state, d.state) ∷ [] }

-- why an answer of an open run isn't committed: each cause comes only where those before it don't hold
abbrev pub EndCause : BookParts → Ticket → Done → Stop → Type 0
EndCause b t d (UndeclaredEffect r) = (r ≡ t.reaction) × ¬ MayAll b.plan t.reaction d.steps
EndCause b t d LimitTag = MayAll b.plan t.reaction d.steps × HasLongDelay d.steps
EndCause b t d (Collision g) = MayAll b.plan t.reaction d.steps × (¬ HasLongDelay d.steps) × CollidesFirst b.plan (with_answer b t d) g
EndCause b t d TooManyRows = MayAll b.plan t.reaction d.steps × (¬ HasLongDelay d.steps) × IsClean b.plan (with_answer b t d) × (4000000 < length (with_answer b t d))
EndCause b t d NoMemory = Unit {0}
EndCause b t d (NoBody r) = ⊥
EndCause b t d TooManyRuns = ⊥
EndCause b t d Stranger = ⊥
EndCause b t d BodyNoMemory = ⊥
EndCause b t d NoWorker = ⊥
EndCause b t d PlanChanged = ⊥
EndCause b t d BadWorkers = ⊥

-- why an answer isn't committed
abbrev pub CommitCause : BookParts → Ticket → Result Done Refused → Stop → Type 0
CommitCause b t answer Stranger = ¬ HasTicket b t
CommitCause b t answer BodyNoMemory = HasTicket b t × IsErr answer
CommitCause b t answer NoMemory = Unit {0}
CommitCause b t answer (NoBody r) = ⊥
CommitCause b t answer TooManyRuns = ⊥
CommitCause b t answer NoWorker = ⊥
CommitCause b t answer PlanChanged = ⊥
CommitCause b t answer BadWorkers = ⊥
CommitCause b t answer (UndeclaredEffect r) = HasTicket b t × IfOk answer (λ d. EndCause b t d (UndeclaredEffect r))
CommitCause b t answer (Collision g) = HasTicket b t × IfOk answer (λ d. EndCause b t d (Collision g))
CommitCause b t answer TooManyRows = HasTicket b t × IfOk answer (λ d. EndCause b t d TooManyRows)
CommitCause b t answer LimitTag = HasTicket b t × IfOk answer (λ d. EndCause b t d LimitTag)

-- each run that is still open was triggered and is, and has the inputs that it had
abbrev pub KeepsOpenRuns : PlanParts → List Row → List Row → Type 0
KeepsOpenRuns plan old new = (w : ℕ) (g : Tag) (r : ℕ) → IsOpen new (length new) w g r → Triggered plan (rows plan (by_ends plan old)) g r × Triggered plan (rows plan (by_ends plan new)) g r × ((shown : List (Option Value)) → Inputs plan (rows plan (by_ends plan old)) g r shown → Inputs plan (rows plan (by_ends plan new)) g r shown)
