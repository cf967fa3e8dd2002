use Rattle.std.proofs.Common.{inl, inr, arith}
use Rattle.std.proofs.lemmas.Bool.{cases_lt}
use Rattle.lft_validate.{specs.inner.Members.behind, proofs.TwoMains.two_mains}
use Rattle.lft_validate.proofs.mains.two_mains.Goals as goal

pub returns-in_err-first-clause-none : goal.returns-in_err-first-clause-none
returns-in_err-first-clause-none c = rw c.from_residual.ensures (λ two. (let t = two_mains (behind c.args.reactors.now) two in c.in_err-first.ensures.none t.0 (omega arith) t.3))

pub returns-in_err-second-clause-none : goal.returns-in_err-second-clause-none
returns-in_err-second-clause-none c =
    rw c.from_residual-in_err-second.ensures (λ two. (
    let t = two_mains (behind c.args.reactors.now) two in
    let lt = t.2 in
    elim (cases_lt t.0 c.in_ok-first.first) [
      | inl l ↦ c.in_ok-first.ensures.first t.0 (omega arith) l t.3
      | inr g ↦ c.in_err-second.ensures.none t.1 (omega (arith, lt, g)) t.4
    ]
    ))
