use Rattle.std.proofs.Common.{◌≡◌, ◌++◌, [], ◌∷◌, Some, map, slice_get, take, sym, ap, ◌∙◌, arith}
use Rattle.std.proofs.lemmas.{List.map-append, Option.slice_get-get_or}
use Rattle.lft_lower.{specs.inner.Needed.needed_in, proofs.MeaningsLemmas.Growing.one_more}
use Rattle.lft_lower.proofs.instances.needed.Goals as goal

pub loop-place-preserved : goal.loop-place-preserved
loop-place-preserved c =
    let items = c.args.shapes.now in
    let place = c.loop-place.place in
    let item = c.index-shapes-place.result in
    let test = c.loop-place-test.true in
    let there : slice_get items place ≡ Some item = slice_get-get_or items place item (omega arith) ∙ ap Some (sym c.index-shapes-place.is) in
    c.in_ok-push.ensures.items
    ∙ ap (λ ns. ns ++ c.count_needed-count.result ∷ []) c.loop-place.invariant
    ∙ ap (λ n. map needed_in (take place items) ++ n ∷ []) c.count_needed-count.ensures
    ∙ sym (ap (map needed_in) (one_more items place item there) ∙ map-append needed_in (take place items) (item ∷ []))
