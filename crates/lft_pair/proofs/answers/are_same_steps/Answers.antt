use Rattle.lft_pair.proofs.Answering.{same_more}
use Rattle.lft_pair.proofs.answers.are_same_steps.Goals as goal

pub loop-i-preserved : goal.loop-i-preserved
loop-i-preserved c = same_more c.args.a.now c.args.b.now c.loop-i.i c.item_at.result c.item_at-in-loop-i.result c.item_at.ensures c.item_at-in-loop-i.ensures (c.is_same_step.ensures c.if-not-is_same_step.false) c.loop-i.invariant
