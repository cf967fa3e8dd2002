use Rattle.std.proofs.Common.{◌≡◌, ◌≤◌, length, subst, arith}
use Rattle.lft_check.{specs.inner.{Verdicts.LeastOf, Shares.IsFound}, proofs.Sharing.{next_found, next_ok}}
use Rattle.lft_check.proofs.shares.least_found.Goals as goal

pub loop-place-preserved : goal.loop-place-preserved
loop-place-preserved c =
    let found = c.args.found.now in
    let k = c.loop-place.place in
    let is = c.in-Ok.ensures in
    record {
      least = next_found found k c.in-Ok.breach is c.loop-place.least c.lesser-least.result c.loop-place.invariant.least c.lesser-least.ensures;
      all = next_ok found k c.in-Ok.breach is c.loop-place.invariant.all;
    }

pub returns-clause-least : goal.returns-clause-least
returns-clause-least c =
    let below : c.loop-place.place ≤ length c.args.found.now = c.loop-place.auto.place-end in
    let above : length c.args.found.now ≤ c.loop-place.place = c.loop-place-test.false in
    let all : c.loop-place.place ≡ length c.args.found.now = omega arith in
    subst (λ n. LeastOf (IsFound c.args.found.now n) c.loop-place.least) all c.loop-place.invariant.least
