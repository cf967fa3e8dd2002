-- What `begin` answers and does.
use Rattle.std.specs.Prelude.{◌≡◌, ℕ, ◌<◌, ◌-◌, ◌++◌, slice_index, slice_set}
use Rattle.lft_model.specs.{Presence.Inputs, Runs.by_ends, OneWorker.rows as rows_of_runs, Recorded.begun_rows}
use Rattle.lft_pool.specs.{declared.{book.Begin.{Begin, TheVariants.{Run, Wait, Finished}}, bodies.ticket.Ticket.Ticket}, Books.{BookParts, word_now}}
use Rattle.lft_scheduler.specs.Starts.{MayStartFirst}

-- what holds of each of the three answers of `begin`
abbrev pub MatchBegin : {L C : Type 0} → Begin L C → (Ticket → ℕ → Type 0) → Type 0 → Type 0 → Type 0
MatchBegin (Run t b) run wait finished = run t b
MatchBegin Wait run wait finished = wait
MatchBegin Finished run wait finished = finished

-- the run of the ticket is begun by the worker, and a body of the reaction is taken
pub record Started (old new : BookParts) (w : ℕ) (t : Ticket) (body : ℕ) : Type 0 where
  pub first : MayStartFirst old.plan old.rows t.tag t.reaction
  pub by_worker : t.worker ≡ w
  pub body_is : body ≡ t.reaction
  pub word_is : t.state ≡ word_now old.plan old.rows old.states t.reaction
  pub reads : Inputs old.plan (rows_of_runs old.plan (by_ends old.plan old.rows)) t.tag t.reaction t.reads
  pub had_body : 0 < slice_index old.left t.reaction
  pub book_is : new ≡ record old { rows = old.rows ++ begun_rows old.plan w t.tag t.reaction t.reads; left = slice_set old.left t.reaction (slice_index old.left t.reaction - 1) }
