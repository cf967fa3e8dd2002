use Rattle.std.proofs.Common.{List, subst, sym, ◌∙◌}
use Rattle.lft_classes.specs.declared.shapes.Shape.{Shape}
use Rattle.lft_elaborate.{specs.inner.Places.IsWidth, proofs.{Keeping.{goes_further, goes_nowhere}, Standing.{found_is_width, none_written}}}
use Rattle.lft_elaborate.proofs.settings.Settings.width.Goals as goal

pub widths-init : goal.widths-init
widths-init c = record { goes = goes_nowhere _ }

pub widths-preserved : goal.widths-preserved
widths-preserved c = record { goes = goes_further _ _ _ c.widths.invariant.goes c.in_ok-find_width.ensures.goes }

pub returns-in-Some-clause-width : goal.returns-in-Some-clause-width
returns-in-Some-clause-width c t made at =
    let s = c.widths.self in
    let goes = c.widths.invariant.goes in
    let n = c.in-Some.width in
    subst (λ (shapes : List Shape). IsWidth shapes t c.args.member n) goes.shapes (found_is_width s c.args.setting c.args.member n t (goes.made made) (goes.stays c.args.setting t at) (sym c.in-Some.ensures))

pub returns-then-not-is_wide-clause-width : goal.returns-then-not-is_wide-clause-width
returns-then-not-is_wide-clause-width c t made at = none_written c.args.self.now c.args.setting c.args.member t at (sym c.is_wide.ensures ∙ c.if-not-is_wide.true)
