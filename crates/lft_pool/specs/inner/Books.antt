-- Inside: what contracts see of a book, and what holds of every book.
use Rattle.std.specs.Prelude.{◌≡◌, ◌≤◌, ℕ, ℤ, List, length, Option, Some, None, slice_get}
use Rattle.lft_ir.specs.declared.{parts.Reaction.Reaction, steps.row.Row.Row}
use Rattle.lft_model.specs.{Plans.PlanParts, Runs.by_ends, Recorded.word_after}
use Rattle.lft_pool.specs.declared.stop.Stop.{Stop}
use Rattle.lft_scheduler.specs.{Starts.started_count, inner.Agendas.{AgendaParts, IsAgenda}}

-- what is kept beside them: the words of the instances, the number of started runs, a list of bodies for each reaction
pub record IsKept (plan : PlanParts) (t : List Row) (states : List (ℤ × ℤ)) (words : List ℤ) (started : ℕ) (left : List ℕ) : Type 0 where
  pub words_are : (r : ℕ) (x : Reaction) → slice_get plan.program.reactions r ≡ Some x → slice_get words x.instance ≡ Some (word_after plan.program x.instance (by_ends plan t) states)
  pub started_is : started ≡ started_count t
  pub few_runs : started ≤ 1000000
  pub lists : length left ≡ length plan.program.reactions

-- the agenda is that of the rows, until the book stops
abbrev pub AgendaHolds : Option Stop → PlanParts → List Row → AgendaParts → Type 0
AgendaHolds None plan t agenda = IsAgenda plan t agenda
AgendaHolds (Some s) plan t agenda = Unit {0}
