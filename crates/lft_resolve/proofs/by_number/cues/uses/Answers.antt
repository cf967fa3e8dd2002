use Rattle.std.proofs.Common.{not, sym, ap}
use Rattle.std.proofs.lemmas.Result.{err_from_is_err_and}
use Rattle.lft_tree.specs.View.{ref_view}
use Rattle.lft_resolve.specs.{inner.{Lost.IsLost, Sheets.IsSpot}, Sheets.is_timer, declared.kinds.Role.TheVariants.Read}
use Rattle.lft_resolve.proofs.{Filtered.{filtered_more, filtered_kept}, Lost.lost_read, Somes.some_here}
use Rattle.lft_resolve.proofs.by_number.cues.uses.Goals.{in-Some, in-None+in_ok-spot-in-None+in_ok-push-in-None}
use Rattle.lft_resolve.proofs.by_number.cues.uses.Goals as goal

pub returns-in_err-spot-in-None-clause-lost : goal.returns-in_err-spot-in-None-clause-lost
returns-in_err-spot-in-None-clause-lost c =
    let p = err_from_is_err_and c.from_residual.result c.from_residual.ensures.1 in
    rw (p.1, p.2)
    (λ other rs r file own. some_here ref_view (λ ref. IsLost rs r (Read, ref)) c.args.references.now c.loop-reference.reference-index c.reference-item.result c.loop-reference-test.true (sym c.reference-item.is)
    (lost_read rs r (ref_view c.reference-item.result) (c.in-None.ensures r own) (c.in_err-spot-in-None.ensures.lost other rs r file own)))

pub loop-reference-preserved : goal.loop-reference-preserved
loop-reference-preserved c rs r file own =
    elim c.match-timer.branch [
      | in-Some w ↦ rw w.spots-is (filtered_kept (λ ref. not (is_timer r ref.head ref.port)) ref_view (IsSpot rs r) c.args.references.now c.loop-reference.reference-index c.reference-item.result c.loop-reference-test.true (sym c.reference-item.is) c.loop-reference.spots.items (c.loop-reference.invariant rs r file own) (let timer = w.in-Some.ensures r own in ap not timer.is_one))
      | in-None+in_ok-spot-in-None+in_ok-push-in-None w ↦ rw (w.spots-is, w.in_ok-push-in-None.ensures.items) (filtered_more (λ ref. not (is_timer r ref.head ref.port)) ref_view (IsSpot rs r) c.args.references.now c.loop-reference.reference-index c.reference-item.result c.loop-reference-test.true (sym c.reference-item.is) c.loop-reference.spots.items (c.loop-reference.invariant rs r file own) _ (ap not (w.in-None.ensures r own)) (w.in_ok-spot-in-None.ensures.ok rs r file own))
    ]
