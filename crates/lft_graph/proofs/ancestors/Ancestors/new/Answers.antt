use Rattle.std.proofs.Common.{◌≡◌, ◌+◌, ◌/◌, ◌<◌, ◌≤◌, ℕ, List, length, Some, slice_get, slice_set, sym, ap, subst, arith}
use Rattle.lft_graph.{specs.inner.Sets.IsUnion, proofs.Ancestry.{AreAncestorsTo, order_listed, order_known, set_of, ancestors_more, ancestors_end}}
use Rattle.lft_graph.proofs.ancestors.Ancestors.new.Goals as goal

pub before-requires : goal.before-requires
before-requires c = order_listed c.args.program.now c.args.graph.now c.requires c.loop-place.place c.item_at-reaction.result (subst (λ (xs : List ℕ). slice_get xs c.loop-place.place ≡ Some c.item_at-reaction.result) c.by_level-order.ensures c.item_at-reaction.ensures)

pub union_of-requires-clause-list : goal.union_of-requires-clause-list
union_of-requires-clause-list c i b e =
    let program = c.args.program.now in
    let graph = c.args.graph.now in
    let r = c.item_at-reaction.result in
    let k = c.loop-place.place in
    let order = subst (λ (xs : List ℕ). slice_get xs k ≡ Some r) c.by_level-order.ensures c.item_at-reaction.ensures in
    let so_far = subst (λ (xs : List ℕ). AreAncestorsTo program xs k c.loop-place.sets.items) c.by_level-order.ensures c.loop-place.invariant in
    let l : b < length c.loop-place.sets.items = set_of program graph c.requires c.loop-place.sets.items k r c.before-in-loop-place.result.now order c.before-in-loop-place.ensures so_far i b e in
    subst (λ (xs : List (List ℕ)). b < length xs) (sym c.as_slice.ensures.value) l

pub index_mut-requires : goal.index_mut-requires
index_mut-requires c =
    let program = c.args.program.now in
    let known = order_known program c.args.graph.now c.requires c.loop-place.place c.item_at-reaction.result (subst (λ (xs : List ℕ). slice_get xs c.loop-place.place ≡ Some c.item_at-reaction.result) c.by_level-order.ensures c.item_at-reaction.ensures) in
    let long : length c.loop-place.sets.items ≡ length program.reactions = c.loop-place.invariant.as_long in
    omega arith

pub loop-place-preserved : goal.loop-place-preserved
loop-place-preserved c =
    let program = c.args.program.now in
    let graph = c.args.graph.now in
    let r = c.item_at-reaction.result in
    let k = c.loop-place.place in
    let list = c.before-in-loop-place.result.now in
    let sets : List (List ℕ) = c.loop-place.sets.items in
    let set : List ℕ = c.in_ok-union.union in
    let order = subst (λ (xs : List ℕ). slice_get xs k ≡ Some r) c.by_level-order.ensures c.item_at-reaction.ensures in
    let so_far = subst (λ (xs : List ℕ). AreAncestorsTo program xs k sets) c.by_level-order.ensures c.loop-place.invariant in
    let room : length set ≤ length sets / 64 + 1 = subst (λ (xs : List (List ℕ)). length set ≤ length xs / 64 + 1) c.as_slice.ensures.value c.in_ok-union.ensures.room in
    let union : IsUnion list (length list) sets set = subst (λ (xs : List (List ℕ)). IsUnion list (length list) xs set) c.as_slice.ensures.value c.in_ok-union.ensures.members in
    subst (λ (xs : List ℕ). AreAncestorsTo program xs (k + 1) (slice_set sets r set)) (sym c.by_level-order.ensures) (ancestors_more program graph c.requires sets k r list order c.before-in-loop-place.ensures so_far set union room)

pub returns : goal.returns
returns c =
    let program = c.args.program.now in
    let sets : List (List ℕ) = c.loop-place.sets.items in
    let same : length c.by_level-order.result.now ≡ length c.args.graph.now.by_level = ap length c.by_level-order.ensures in
    ancestors_end program c.args.graph.now c.requires c.loop-place.place sets (omega arith) (subst (λ (xs : List ℕ). AreAncestorsTo program xs c.loop-place.place sets) c.by_level-order.ensures c.loop-place.invariant)
