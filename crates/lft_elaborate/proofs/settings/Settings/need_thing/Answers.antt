use Rattle.std.proofs.Common.{◌≡◌, Some, IfOk, IfSome, sym, subst}
use Rattle.lft_classes.specs.declared.shapes.OwnThing.{OwnThing}
use Rattle.lft_elaborate.specs.inner.{Noted.{AreMade, table}, Places.AreMany, Settings.setting_at, Values.Valued}
use Rattle.lft_elaborate.proofs.settings.Settings.need_thing.Goals as goal

pub returns-in-Member : goal.returns-in-Member
returns-in-Member c =
    let s = c.args.self.now in
    record { many = subst (λ (x : OwnThing). IfOk c.need.result (λ found. IfSome found (λ n. (t : Valued) → AreMade (table s) → setting_at s c.args.setting ≡ Some t → AreMany s.shapes.items t x n))) (sym c.in-Member.is) c.need.ensures.many }
