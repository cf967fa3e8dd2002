use Rattle.std.proofs.Common.{rules, w64}
use Rattle.std.specs.Prelude.{FitsSigned}
use Rattle.lft_elaborate.{specs.inner.Values.main_value, proofs.Valuing.number_pushed}
use Rattle.lft_elaborate.proofs.values.main_values.Goals as goal

pub loop-parameter-preserved : goal.loop-parameter-preserved
loop-parameter-preserved c =
    let fits : FitsSigned w64 c.in_ok-main_value.field-0 = search rules in
    number_pushed (main_value c.args.main.now) c.loop-parameter.values.items c.push.new.self.items c.in_ok-main_value.field-0 c.loop-parameter.parameter fits c.in_ok-push.ensures.items c.loop-parameter.invariant c.in_ok-main_value.ensures.found
