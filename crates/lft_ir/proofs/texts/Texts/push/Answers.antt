use Rattle.std.proofs.Common.{arith}
use Rattle.lft_ir.proofs.Positions.{good_insert, text_there}
use Rattle.lft_ir.proofs.texts.Texts.push.Goals as goal

pub invariant_of-self-2 : goal.invariant_of-self-2
invariant_of-self-2 c = rw c.in_ok-insert.ensures.keys (good_insert c.args.text c.self.inside.set.keys c.self.invariant.0 c.self.invariant.1)

pub returns-clause-there : goal.returns-clause-there
returns-clause-there c = λ no. rw (← c.self.view_is) (text_there c.args.text c.self.inside.set.keys (grind (arith, c.in_ok-insert.ensures.added)))

pub returns-clause-distinct : goal.returns-clause-distinct
returns-clause-distinct c = rw c.in_ok-insert.ensures.keys (good_insert c.args.text c.self.inside.set.keys c.self.invariant.0 c.self.invariant.1).0
