use Rattle.lft_graph.proofs.Feeding.{lists_more}
use Rattle.lft_graph.proofs.before.all_before.Goals as goal

pub reactions-preserved : goal.reactions-preserved
reactions-preserved c = rw c.in_ok-push.ensures.items (lists_more c.args.program.now c.reactions.number c.reactions.lists.items c.in_ok-before_of.field-0 c.reactions.invariant c.in_ok-before_of.ensures.before c.in_ok-before_of.ensures.covers)
