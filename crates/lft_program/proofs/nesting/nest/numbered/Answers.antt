use Rattle.std.proofs.Common.{◌≡◌, ℕ, ◌<◌, false, List, MatchOption, arith, ap, refl, subst}
use Rattle.lft_lists.proofs.Options.{lacking}
use Rattle.lft_resolve.specs.inner.Expansion.Numbers.{HasMoreThings, things}
use Rattle.lft_program.{specs.{inner.Limits.{IsPassed, limit_of}, declared.nesting.limits.Excess.Excess}, proofs.Excesses.limit_small}
use Rattle.lft_program.proofs.nesting.nest.numbered.Goals as goal

pub returns-in-Some-clause-within : goal.returns-in-Some-clause-within
returns-in-Some-clause-within c table main walk =
    let More : List ℕ → ℕ → Type 0 = λ counts limit. HasMoreThings table main counts limit in
    subst (λ limit. More c.args.counts.items limit → ⊥) c.limit.ensures
    (subst (λ counts. More counts c.limit.result → ⊥) c.deref.ensures.value
    (subst (λ o. MatchOption o (More c.deref.result.now c.limit.result) (λ _. More c.deref.result.now c.limit.result → ⊥)) c.in-Some.is (c.in_ok-firsts.ensures.tree table main walk)))

pub returns-in-None-clause-too_many : goal.returns-in-None-clause-too_many
returns-in-None-clause-too_many c x is =
    let instances = c.args.instances.now in
    let all = things c.args.counts.items instances in
    let told : Excess = record { kind = c.args.kind; count = c.count_things.result; is_more = false } in
    let same : told ≡ x = cc in
    let past : c.limit.result < things c.deref.result.now instances = lacking (c.limit.result < things c.deref.result.now instances) c.in_ok-firsts.field-0 c.in_ok-firsts.ensures.passed c.in-None.is in
    let here : things c.deref.result.now instances ≡ all = ap (λ l. things l instances) c.deref.ensures.value in
    let there : things c.deref-in-None.result.now instances ≡ all = ap (λ l. things l instances) c.deref-in-None.ensures.value in
    let count = c.count_things.ensures in
    let limit = c.limit.ensures in
    let small = limit_small c.args.kind in
    subst (IsPassed c.args.kind all) same (record {
      is_kind = refl;
      passed = omega (arith, past, here, there, count, limit, small);
      counted = omega (arith, there, count);
      whole = refl;
    })
