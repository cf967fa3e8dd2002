use Rattle.std.proofs.Common.{take, sym}
use Rattle.std.proofs.lemmas.Result.{err_from_is_err_and}
use Rattle.lft_tree.specs.View.{ref_view, ref_views}
use Rattle.lft_resolve.specs.{inner.{Lost.{IsLost, is_spot}, Sheets.IsSpot}, declared.kinds.Role.TheVariants.Effect}
use Rattle.lft_resolve.proofs.{Files.AllZip-last, Lost.{lost, effect_spot}, Somes.some_here, Twice.map_last}
use Rattle.lft_resolve.proofs.by_number.cues.effects.Goals as goal

pub returns-in_err-spot-clause-lost : goal.returns-in_err-spot-clause-lost
returns-in_err-spot-clause-lost c =
    let p = err_from_is_err_and c.from_residual.result c.from_residual.ensures.1 in
    rw (p.1, p.2)
    (λ other rs r file own. some_here ref_view (λ ref. IsLost rs r (Effect, ref)) c.args.references.now c.loop-reference.reference-index c.reference-item.result c.loop-reference-test.true (sym c.reference-item.is)
    (lost is_spot rs r Effect (ref_view c.reference-item.result) effect_spot (c.in_err-spot.ensures.lost other rs r file own)))

pub loop-reference-preserved : goal.loop-reference-preserved
loop-reference-preserved c rs r file own =
    rw (c.in_ok-push.ensures.items, map_last ref_view c.args.references.now c.loop-reference.reference-index c.reference-item.result c.loop-reference-test.true (sym c.reference-item.is))
    (AllZip-last (IsSpot rs r) (ref_views (take c.loop-reference.reference-index c.args.references.now)) c.loop-reference.spots.items (ref_view c.reference-item.result) _ (c.loop-reference.invariant rs r file own) (c.in_ok-spot.ensures.ok rs r file own))
