use Rattle.std.proofs.Common.{sym, ap, ◌∙◌}
use Rattle.std.specs.Option.{option_and_then}
use Rattle.lft_classes.specs.declared.shapes.Shape.{Shape}
use Rattle.lft_elaborate.{specs.inner.Meanings.meaning_of, proofs.Standing.shape_there}
use Rattle.lft_elaborate.proofs.settings.Settings.meaning.Goals as goal

pub returns : goal.returns
returns c t at =
    let s = c.args.self.now in
    let r = c.args.reference.now in
    let shape = c.in-Some.shape.now in
    ap (option_and_then (λ (x : Shape). meaning_of s.shapes.items x r)) (sym (shape_there s c.args.setting t at) ∙ sym c.in-Some.ensures) ∙ ap (λ l. meaning_of l shape r) (sym c.deref.ensures.value) ∙ c.in_ok-meaning.ensures.meaning
