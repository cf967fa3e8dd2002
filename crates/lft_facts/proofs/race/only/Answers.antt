use Rattle.std.proofs.Common.{◌≡◌, ◌≤◌, length, ◌∙◌, arith}
use Rattle.lft_facts.proofs.FirstRace.{only_none, only_more, only_all}
use Rattle.lft_facts.proofs.race.only.Goals as goal

pub loop-place-init : goal.loop-place-init
loop-place-init c = (only_none c.args.marks.now c.args.these.now c.new-left.result.items c.new-left.ensures.items, omega arith)

pub loop-place-preserved : goal.loop-place-preserved
loop-place-preserved c = (only_more c.args.marks.now c.args.these.now c.loop-place.place c.loop-place.left.items c.push.new.self.items c.item_at.result c.kept.result c.item_at-in-loop-place.result c.loop-place.invariant.0 c.item_at.ensures c.item_at-in-loop-place.ensures c.kept.ensures c.in_ok-push.ensures.items, (let l = c.loop-place-test.true in omega arith))

pub returns-clause-long : goal.returns-clause-long
returns-clause-long c = c.loop-place.invariant.0.as_long ∙ (let n = c.loop-place-test.false in let l : c.loop-place.place ≤ length c.args.marks.now = c.loop-place.invariant.1 in let e : c.loop-place.place ≡ length c.args.marks.now = omega arith in e)

pub returns-clause-left : goal.returns-clause-left
returns-clause-left c = only_all c.args.marks.now c.args.these.now c.loop-place.place c.loop-place.left.items (let n = c.loop-place-test.false in omega arith) c.loop-place.invariant.0
