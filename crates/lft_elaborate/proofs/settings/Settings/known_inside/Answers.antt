use Rattle.std.proofs.Common.{sym, ◌∙◌, ◌≡◌, Some}
use Rattle.lft_elaborate.{specs.inner.{Noted.{AreMade, IsNumberOf, table}, Settings.setting_at, Values.{Valued, inside}}, proofs.Keeping.found_is_inside}
use Rattle.lft_classes.proofs.Walking.{some_of}
use Rattle.lft_elaborate.proofs.settings.Settings.known_inside.Goals as goal

pub returns-clause-inside : goal.returns-clause-inside
returns-clause-inside c =
    let s = c.args.self.now in
    some_of (λ k. (t : Valued) → AreMade (table s) → setting_at s c.args.setting ≡ Some t → IsNumberOf s.settings.items (inside s.shapes.items t c.args.member) (Some k)) c.noted_inside.result (λ k is t made at. found_is_inside s c.args.setting c.args.member k t made (sym c.noted_inside.ensures ∙ is) at)
