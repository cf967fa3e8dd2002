use Rattle.std.proofs.Common.{ℕ, List, take}
use Rattle.lft_tag.specs.Tags.{UpTo}
use Rattle.lft_ir.specs.declared.{parts.Name.TheVariants.Port, steps.row.{Row.Row, Step.TheVariants.Write}}
use Rattle.lft_model.specs.Recorded.{run_row}
use Rattle.lft_scheduler.specs.inner.Events.{HasEvents, IsFedTo}
use Rattle.lft_scheduler.proofs.events.feeding.feed_write.Given as goal

abbrev pub invariant-loop-place : goal.invariant-loop-place
invariant-loop-place l = (t : List Row) (w r : ℕ) → UpTo l.tag l.last → HasEvents l.plan t l.tag l.last l.fn.clash l.fn.queue → IsFedTo l.plan t (run_row w l.tag r (Write (Port l.origin) l.value)) l.last (take l.place l.ports) l.found l.queue
