use Rattle.std.proofs.Common.{arith}
use Rattle.lft_facts.proofs.Beside.{after_some, after_none}
use Rattle.lft_facts.proofs.neighbours.run_after.Goals as goal

pub returns-clause-some : goal.returns-clause-some
returns-clause-some c = after_some c.args.rows.now c.args.tag c.args.reaction c.loop-place.place (let n = c.loop-place-test.false in omega arith) c.loop-place.run c.loop-place.invariant

pub returns-clause-none : goal.returns-clause-none
returns-clause-none c = after_none c.args.rows.now c.args.tag c.args.reaction c.loop-place.place (let n = c.loop-place-test.false in omega arith) c.loop-place.run c.loop-place.invariant
