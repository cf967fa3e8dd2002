use Rattle.lft_facts.proofs.Added.{adds_both}
use Rattle.lft_facts.proofs.reasons.add_near.Goals as goal

pub returns : goal.returns
returns c b p = adds_both c.args.plan.now c.args.rows.now _ _ _ (c.in_ok-add_nearest.ensures b p) (c.in_ok-add_nearest-2.ensures b p)
