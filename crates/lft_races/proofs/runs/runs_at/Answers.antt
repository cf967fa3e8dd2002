use Rattle.std.proofs.Common.{false, ◌∙◌, ap, length, arith}
use Rattle.lft_lists.proofs.Places.{length_same}
use Rattle.lft_races.proofs.Running.{run_none, run_all}
use Rattle.lft_races.proofs.runs.runs_at.Goals as goal

pub loop-place-init : goal.loop-place-init
loop-place-init c =
    let e = c.in_ok-ran.ensures.items_if_clones_equal (λ y q. q) in
    (ap length e ∙ length_same c.args.reactions false, run_none c.args.rows.now c.args.tag c.args.reactions c.in_ok-ran.ran.items e)

pub returns-clause-ran : goal.returns-clause-ran
returns-clause-ran c = run_all c.args.rows.now c.args.tag c.loop-place.place c.loop-place.ran.items (let n = c.loop-place-test.false in omega arith) c.loop-place.invariant.1
