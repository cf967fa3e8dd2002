use Rattle.std.proofs.Common.{◌≡◌, true, inl, inr, length, sym, subst, arith}
use Rattle.std.proofs.lemmas.Bool.{cases_lt}
use Rattle.lft_validate.{specs.inner.Members.{IsMainAt, behind}, proofs.Turns.{so_at, none_past}}
use Rattle.lft_validate.proofs.mains.main_from.Goals as goal

pub loop-place-preserved : goal.loop-place-preserved
loop-place-preserved c k low lt so =
    let rs = behind c.args.reactors.now in
    elim (cases_lt k c.loop-place.place) [
      | inl l ↦ c.loop-place.invariant k low l so
      | inr g ↦ (
          let e : k ≡ c.loop-place.place = omega arith in
          let main = so_at (λ r. r.now) (λ r. r.is_main ≡ true) c.args.reactors.now c.loop-place.place c.index-reactors-place.result c.loop-place-test.true (sym c.index-reactors-place.is) (subst (IsMainAt rs) e so) in
          absurd (cc)
          )
    ]

pub returns-clause-none : goal.returns-clause-none
returns-clause-none c k low so =
    elim (cases_lt k (length c.args.reactors.now)) [
      | inl l ↦ (let past = c.loop-place-test.false in c.loop-place.invariant k low (omega (arith, l, past)) so)
      | inr g ↦ none_past (λ r. r.now) (λ r. r.is_main ≡ true) c.args.reactors.now k (omega (arith, g)) so
    ]
