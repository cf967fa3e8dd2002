use Rattle.std.proofs.Common.{◌≡◌, ap}
use Rattle.lft_ir.specs.Steps.Inputs.{ExternalInputs}
use Rattle.lft_model.{specs.Plans.PlanParts, proofs.Told.stop_fits}
use Rattle.lft_model.proofs.plan.Plan.stop_at.Goals as goal

pub invariant_of-self : goal.invariant_of-self
invariant_of-self c = (
  record {
    sound = c.self.invariant.0.sound;
    levels = c.self.invariant.0.levels;
    in_order = c.keeps.ensures.order;
    fit = stop_fits c.self.inside.program c.self.inside.externals c.stop_at.new.self c.args.stop c.self.invariant.0.fit c.requires c.stop_at.ensures;
  },
  c.self.invariant.1,
)
