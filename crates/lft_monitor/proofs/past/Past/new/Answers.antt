use Rattle.std.proofs.Common.{refl, ap, ◌∙◌}
use Rattle.lft_ir.specs.Steps.Inputs.{ExternalInputs}
use Rattle.lft_monitor.proofs.Behind.{past_begins}
use Rattle.lft_monitor.proofs.past.Past.new.Goals as goal

pub returns : goal.returns
returns c = past_begins c.args.plan.now _ (c.stop.ensures ∙ ap (λ (e : ExternalInputs). e.stop) c.externals.ensures.value) refl c.new.ensures.items (rw c.program.ensures.value at c.in_ok-new.ensures)
