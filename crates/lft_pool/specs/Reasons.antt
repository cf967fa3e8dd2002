-- Why a book stopped.
use Rattle.std.specs.Prelude.{ℕ, ℤ, List, Option, Some, None, Result, IfOk}
use Rattle.lft_tag.specs.declared.{Tag.Tag, NoMemory.NoMemory as Refused}
use Rattle.lft_ir.specs.declared.parts.Value.{Value}
use Rattle.lft_pool.specs.{declared.{bodies.{done.Done.Done, ticket.Ticket.Ticket}, stop.Stop.Stop}, Books.BookParts, Causes.BeginCause, Answers.CommitCause}

-- the book refuses some worker a run for this reason, or some answer; and where the answer isn't want of memory, it meets the law
pub data StopHolds (law : ℕ → Tag → ℤ → List (Option Value) → Done → Type 0) (b : BookParts) (s : Stop) : Type 0 where
  by_begin : (w : ℕ) → BeginCause b w s → StopHolds law b s
  by_commit : (t : Ticket) (answer : Result Done Refused) → IfOk answer (λ d. law t.reaction t.tag t.state t.reads d) → CommitCause b t answer s → StopHolds law b s

-- what the book's reason says of the book before it, where there is one
abbrev pub ReasonHolds : (ℕ → Tag → ℤ → List (Option Value) → Done → Type 0) → BookParts → Option Stop → Type 0
ReasonHolds law b None = Unit {0}
ReasonHolds law b (Some s) = StopHolds law b s
