use Rattle.std.proofs.Common.{ℕ, List, None, ◌++◌, map, take}
use Rattle.lft_tag.specs.Tags.{UpTo}
use Rattle.lft_ir.specs.declared.steps.row.Row.{Row}
use Rattle.lft_model.specs.Recorded.{run_row}
use Rattle.lft_scheduler.specs.inner.Events.{HasEvents}
use Rattle.lft_scheduler.proofs.events.feeding.feed.Given as goal

abbrev pub invariant-loop-at : goal.invariant-loop-at
invariant-loop-at l = (t : List Row) (w r : ℕ) → UpTo l.tag l.last → HasEvents l.plan t l.tag l.last None l.fn.queue → HasEvents l.plan (t ++ map (run_row w l.tag r) (take l.at l.steps)) l.tag l.last l.found l.queue
