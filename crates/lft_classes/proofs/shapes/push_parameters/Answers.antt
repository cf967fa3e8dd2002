use Rattle.std.proofs.Common.{◌≡◌, ◌++◌, ◌<◌, map, take, length, refl, sym, ap, ◌∙◌, arith}
use Rattle.std.proofs.lemmas.Grind.{common_steps}
use Rattle.lft_classes.{specs.inner.Built.located_parameters, proofs.Building.pushed}
use Rattle.lft_classes.proofs.shapes.push_parameters.Goals as goal

pub loop-parameter-preserved : goal.loop-parameter-preserved
loop-parameter-preserved c =
    let within : c.loop-parameter.parameter-index < length c.deref-parameter-items.result.now = omega arith in
    record { all = ap located_parameters c.in_ok-push.ensures.items ∙ pushed (λ m. (m.file, m.parameter.now)) (λ m. (c.args.class.file, m)) (located_parameters c.args.parameters.now.items) c.loop-parameter.parameters.items c.deref-parameter-items.result.now c.loop-parameter.parameter-index _ c.parameter-item.result within (sym c.parameter-item.is) refl c.loop-parameter.invariant.all; main = c.in_ok-spend.ensures.main ∙ c.loop-parameter.invariant.main }

pub returns-clause-parameters : goal.returns-clause-parameters
returns-clause-parameters c =
    let whole : take c.loop-parameter.parameter-index c.deref-parameter-items.result.now ≡ c.deref-parameter-items.result.now = grind (arith, common_steps) in
    c.loop-parameter.invariant.all ∙ ap (λ l. located_parameters c.args.parameters.now.items ++ map (λ m. (c.args.class.file, m)) l) (whole ∙ c.deref-parameter-items.ensures.value)
