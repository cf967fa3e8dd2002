use Rattle.std.proofs.Common.{arith}
use Rattle.lft_check.proofs.ByTagLemmas.Absent.{absent_more}
use Rattle.lft_check.proofs.by_tag.sliced.Sliced.first_of.Goals as goal

pub loop-place-preserved : goal.loop-place-preserved
loop-place-preserved c = absent_more c.args.self.now c.args.names.now c.args.from c.loop-place.place c.args.tag c.item_at.result c.loop-place.first c.first_from.result c.sooner-first.result c.item_at.ensures c.loop-place.invariant c.first_from.ensures c.sooner-first.ensures

pub returns : goal.returns
returns c k n l m = c.loop-place.invariant k n l (let z = c.loop-place-test.false in omega (arith, m, z))
