use Rattle.std.proofs.Common.{sym, subst}
use Rattle.std.specs.Prelude.{unwrap_or}
use Rattle.lft_classes.specs.declared.shapes.OwnThing.{OwnThing}
use Rattle.lft_elaborate.{specs.inner.Places.AreMany, proofs.Standing.width_many}
use Rattle.lft_elaborate.proofs.settings.Settings.many.Goals as goal

pub returns-clause-many : goal.returns-clause-many
returns-clause-many c t made at =
    let shapes = c.args.self.now.shapes.items in
    subst (λ n. AreMany shapes t c.args.thing n) (sym c.unwrap_or.ensures) (subst (λ (x : OwnThing). AreMany shapes t x (unwrap_or c.in_ok-width.width 1)) (sym c.in-Member.is) (width_many shapes t c.in-Member.member c.in_ok-width.width (c.in_ok-width.ensures.width t made at)))
