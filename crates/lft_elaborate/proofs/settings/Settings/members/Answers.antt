use Rattle.std.proofs.Common.{◌≡◌, ◌<◌, length, None, Some, sym, ap, subst, ◌∙◌, arith}
use Rattle.std.specs.Prelude.{option_map}
use Rattle.std.specs.Borrow.{Bor}
use Rattle.lft_lists.proofs.Places.{same_some}
use Rattle.lft_classes.specs.declared.shapes.Shape.{Shape}
use Rattle.lft_elaborate.{specs.inner.Settings.shape_at, proofs.Using.instance_within}
use Rattle.lft_elaborate.proofs.settings.Settings.members.Goals as goal

pub returns-in_default : goal.returns-in_default
returns-in_default c t m at is =
    let w = instance_within c.args.self.now c.args.setting m t at is in
    let none : shape_at c.args.self.now c.args.setting ≡ None = sym c.shape_of.ensures ∙ ap (option_map (λ (b : Bor Shape). b.now)) c.in_default.is in
    let some : shape_at c.args.self.now c.args.setting ≡ Some w.0 = w.1 in
    absurd (cc)

pub returns : goal.returns
returns c t m at is =
    let w = instance_within c.args.self.now c.args.setting m t at is in
    let same : w.0 ≡ c.in-Some.shape.now = same_some (shape_at c.args.self.now c.args.setting) w.0 c.in-Some.shape.now w.1 (sym c.in-Some.ensures) in
    let low : m < length c.in-Some.shape.now.members.items = subst (λ (x : Shape). m < length x.members.items) same w.2 in
    omega (arith, low)
