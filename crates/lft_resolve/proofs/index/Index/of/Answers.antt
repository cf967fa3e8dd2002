use Rattle.std.proofs.Common.{◌≡◌, ◌+◌, ◌++◌, ◌∷◌, ℕ, true, false, cond, List, [], take, length, get_or, Some, Bor, bytes_eq, sym, ap, subst, ◌∙◌, arith}
use Rattle.std.{specs.Option.is_none, proofs.lemmas.Grind.common_steps}
use Rattle.lft_resolve.specs.inner.{Places.place, Tests.texts}
use Rattle.lft_resolve.proofs.{Placing.{place_put, place_kept, is_nothing, same_test}, Twice.{get_or-itself, map_last}}
use Rattle.lft_resolve.proofs.index.Index.of.Goals.{then-is_none+in_ok-put, else-is_none}
use Rattle.lft_resolve.proofs.index.Index.of.Goals as goal

pub loop-place-preserved : goal.loop-place-preserved
loop-place-preserved c =
    let i = c.loop-place.place in
    let d : Bor (List ℕ) = record { ref_ptr = (0, 0); now = [] } in
    let item = get_or c.args.names.now i d in
    let before = texts (take i c.args.names.now) in
    let more : texts (take (i + 1) c.args.names.now) ≡ before ++ item.now ∷ [] = map_last (λ t. t.now) c.args.names.now i item c.loop-place-test.true (get_or-itself c.args.names.now i d c.loop-place-test.true) in
    let long : i ≡ length before = grind (arith, common_steps) in
    let found : c.get.result ≡ place item.now before = c.get.ensures ∙ c.loop-place.invariant item.now in
    elim c.if-is_none.branch [
      | then-is_none+in_ok-put w ↦ rw (w.index-is, more) (λ q. w.in_ok-put.ensures q ∙ ap (cond (bytes_eq item.now q) (Some i)) (c.loop-place.invariant q) ∙ place_put before item.now i (sym found ∙ is_nothing c.get.result (same_test c.get.result c.is_none.result true c.is_none.ensures w.if-is_none.true)) long q)
      | else-is_none w ↦ rw (w.index-is, more) (λ q. c.loop-place.invariant q ∙ place_kept before item.now (subst (λ o. is_none o ≡ false) found (same_test c.get.result c.is_none.result false c.is_none.ensures w.if-is_none.false)) q)
    ]
