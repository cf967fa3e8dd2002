use Rattle.std.proofs.Common.{◌≡◌, Some, length, slice_get, sym, ap, ◌∙◌, arith}
use Rattle.std.specs.Prelude.{is_some}
use Rattle.std.proofs.lemmas.{List.take_all, Option.slice_get-get_or}
use Rattle.lft_lower.{specs.inner.Meanings.Meanings.{Means, all_places, here}, proofs.MeaningsLemmas.{Growing.{all_done, all_next}, Placed.count_next}}
use Rattle.lft_lower.proofs.meanings.places.count.Goals as goal

pub loop-place-preserved : goal.loop-place-preserved
loop-place-preserved c =
    let items = c.args.references.now in
    let place = c.loop-place.place in
    let item = c.index-references-place.result in
    let test = c.loop-place-test.true in
    let there : slice_get items place ≡ Some item = slice_get-get_or items place item (omega arith) ∙ ap Some (sym c.index-references-place.is) in
    let h = here c.args.within in (
      count_next h items place item c.in_ok-meaning.meaning c.loop-place.all c.in_ok-count.count _ there c.in_ok-meaning.ensures.meaning c.in_ok-count.ensures.count c.in_ok-all.ensures.sum c.loop-place.invariant.0,
      all_next (Means h) items place item there c.loop-place.invariant.1 (ap is_some c.in_ok-meaning.ensures.meaning),
    )

pub returns-clause-means : goal.returns-clause-means
returns-clause-means c = all_done (Means (here c.args.within)) c.args.references.now c.loop-place.place c.loop-place-test.false c.loop-place.invariant.1

pub returns-clause-count : goal.returns-clause-count
returns-clause-count c = c.loop-place.invariant.0 ∙ ap (λ rs. length (all_places (here c.args.within) rs)) (take_all c.loop-place.place c.args.references.now c.loop-place-test.false)
