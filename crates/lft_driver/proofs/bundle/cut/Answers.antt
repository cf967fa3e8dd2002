use Rattle.std.proofs.Common.{◌+◌, length, sym, subst, take, refl}
use Rattle.lft_driver.{specs.Bundles.IsCut, proofs.Texts.cut_at}
use Rattle.lft_load.proofs.Texts.{rest_from}
use Rattle.lft_driver.proofs.bundle.cut.Goals as goal

pub returns-then-is_marker_line-clause-some : goal.returns-then-is_marker_line-clause-some
returns-then-is_marker_line-clause-some c =
    let text = c.args.text.now in
    let marker = c.args.marker.now in
    let place = c.loop-place.place in
    subst (λ x. IsCut text marker (take place text) x) (sym (rest_from text (place + length marker))) (cut_at text marker place c.loop-place-test.true c.loop-place.invariant (c.if-is_marker_line.ensures.0 refl))
