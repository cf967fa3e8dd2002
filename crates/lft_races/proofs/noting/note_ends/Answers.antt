use Rattle.std.proofs.Common.{◌≡◌, refl, subst, arith}
use Rattle.lft_races.{specs.inner.Noted.AreNoted, proofs.Ending.noted_none}
use Rattle.lft_races.proofs.noting.note_ends.Goals as goal

pub loop-place-init : goal.loop-place-init
loop-place-init c = (refl, noted_none c.args.rows.now c.args.slice c.requires.slice c.args.ends.now c.requires.earlier)

pub returns-clause-noted : goal.returns-clause-noted
returns-clause-noted c = subst (λ n. AreNoted c.args.rows.now c.args.slice n c.loop-place.ends) (let n = c.loop-place-test.false in let l = c.loop-place.auto.place in let e : c.loop-place.place ≡ c.args.slice.end = omega arith in e) c.loop-place.invariant.1
