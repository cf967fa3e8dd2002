use Rattle.std.proofs.Common.{◌≡◌, ◌≤◌, subst, arith}
use Rattle.lft_races.{specs.inner.Races.AreUnfinished, proofs.Ending.marks_none}
use Rattle.lft_races.proofs.unfinished.unfinished_at.Goals as goal

pub loop-end-init : goal.loop-end-init
loop-end-init c = (c.in_ok-marks.ensures.long, marks_none c.args.rows.now c.args.tag c.in_ok-marks.marks.items c.in_ok-marks.ensures.ran, omega arith)

pub returns-clause-marked : goal.returns-clause-marked
returns-clause-marked c = subst (λ n. AreUnfinished c.args.rows.now c.args.tag n c.loop-end.marks.items) (let n = c.loop-end-test.false in let l : c.loop-end.end ≤ c.args.place = c.loop-end.invariant.2 in let e : c.loop-end.end ≡ c.args.place = omega arith in e) c.loop-end.invariant.1
