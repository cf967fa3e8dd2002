use Rattle.std.proofs.Common.{◌≡◌, ◌<◌, length, ap}
use Rattle.lft_ir.specs.Steps.{Fits.EventFits, Inputs.ExternalInputs}
use Rattle.lft_model.{specs.Plans.PlanParts, proofs.Told.tell_fits}
use Rattle.lft_model.proofs.plan.Plan.tell.Goals as goal

pub invariant_of-self : goal.invariant_of-self
invariant_of-self c =
    let p : c.self.inside.program ≡ c.args.self.now.program = ap (λ (x : PlanParts). x.program) c.self.view_is in
    let x : c.self.inside.externals ≡ c.args.self.now.externals = ap (λ (x : PlanParts). x.externals) c.self.view_is in
    let fit : EventFits c.self.inside.program c.args.event = rw (p) c.requires.fit in
    let room : length c.self.inside.externals.events < 4000000 = rw (x) c.requires.room in
    let told = c.tell-told.ensures in (
      record {
        sound = c.self.invariant.0.sound;
        levels = c.self.invariant.0.levels;
        in_order = c.keeps.ensures.order;
        fit = tell_fits c.self.inside.program c.self.inside.externals c.tell-told.new.self c.args.event c.tell-told.result c.self.invariant.0.fit fit room told.stop told.some told.none told.err;
      },
      c.self.invariant.1,
    )
