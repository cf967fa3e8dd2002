use Rattle.std.proofs.Common.{◌≡◌, Some, IfOk, IfSome, sym, subst}
use Rattle.lft_whole.specs.declared.tree.Count.{Count}
use Rattle.lft_elaborate.specs.inner.{Noted.{AreMade, table}, Places.IsCount, Settings.setting_at, Values.Valued}
use Rattle.lft_elaborate.proofs.settings.Settings.term.Goals as goal

pub returns-in-WidthOf-clause-count : goal.returns-in-WidthOf-clause-count
returns-in-WidthOf-clause-count c =
    let s = c.args.self.now in
    subst (λ (x : Count). IfOk c.width_of.result (λ found. IfSome found (λ n. (t : Valued) → AreMade (table s) → setting_at s c.args.setting ≡ Some t → IsCount s.shapes.items t x n))) (sym c.in-WidthOf.is) c.width_of.ensures.places
