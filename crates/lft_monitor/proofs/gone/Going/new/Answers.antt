use Rattle.std.proofs.Common.{[], refl, ap, ◌∙◌}
use Rattle.lft_ir.specs.Steps.Inputs.{ExternalInputs}
use Rattle.lft_monitor.proofs.Passing.{begun}
use Rattle.lft_monitor.proofs.gone.Going.new.Goals as goal

pub returns : goal.returns
returns c = λ rows. begun c.args.plan.now [] rows _ (c.stop.ensures ∙ ap (λ (e : ExternalInputs). e.stop) c.externals.ensures.value) refl refl c.in_ok-begin.ensures
