use Rattle.std.proofs.Common.{◌≡◌, ◌≤◌, subst, arith}
use Rattle.lft_races.specs.inner.Noted.{IsFirstIn}
use Rattle.lft_races.proofs.finding.race_by_rows.Goals as goal

pub with_race-race-requires-clause-later : goal.with_race-race-requires-clause-later
with_race-race-requires-clause-later c program are = subst (λ n. IsFirstIn program c.args.rows.now n c.args.slice.end c.loop-place.race) (let l = c.loop-place-test.true in omega arith) (c.loop-place.invariant.found program are)

pub returns : goal.returns
returns c program are = subst (λ n. IsFirstIn program c.args.rows.now n c.args.slice.end c.loop-place.race) (let n = c.loop-place-test.false in let l : c.args.slice.first ≤ c.loop-place.place = c.loop-place.invariant.from in let e : c.loop-place.place ≡ c.args.slice.first = omega arith in e) (c.loop-place.invariant.found program are)
