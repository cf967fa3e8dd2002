use Rattle.std.proofs.Common.{◌≡◌, ◌+◌, ◌-◌, ◌*◌, ◌≤◌, List, length}
use Rattle.lft_tag.specs.Tags.{Before}
use Rattle.lft_ir.specs.declared.steps.row.Row.{Row}
use Rattle.lft_scheduler.specs.inner.{Firings.AreFirstFirings, Agendas.{MayAdvance, IsReached}}
use Rattle.lft_scheduler.proofs.advancing.advance.Given as goal

abbrev pub invariant-tags : goal.invariant-tags
invariant-tags l = record {
  phases : length l.turn.phases ≡ length l.fn.turn.phases;
  time : l.reached.time ≤ 1000000000000000000;
  firings : AreFirstFirings l.plan.program (λ h. Before l.reached h) l.firings;
  reached : (t : List Row) → MayAdvance l.plan t l.stop → IsReached l.plan t l.fn.from l.stop l.fn.turn l.fn.queue → IsReached l.plan t l.reached l.stop l.turn l.queue;
}

abbrev pub decreases-tags : goal.decreases-tags
decreases-tags l = 4294967296 * (l.stop.time - l.reached.time) + (4294967296 - l.reached.micro)
