use Rattle.std.proofs.Common.{◌≡◌, ◌<◌, ℕ, List, length, replicate, sym, ap, ◌∙◌, subst, arith, Some, slice_get}
use Rattle.lft_graph.{specs.inner.Walks.{IsLevelOf, members_in}, proofs.Levelling.{Levelled, are_levels, levelled_more, levelled_start, member_small}}
use Rattle.lft_graph.proofs.levels.levels_along.Goals as goal

pub order-init : goal.order-init
order-init c =
    let zero : c.in_ok-levels.levels.items ≡ replicate (length c.args.before.now) 0 = c.in_ok-levels.ensures.items_if_clones_equal (λ y e. e) in
    subst (λ l. Levelled c.args.before.now c.args.order.now l 0) (sym zero) (levelled_start c.args.before.now c.args.order.now)

pub list_at-requires : goal.list_at-requires
list_at-requires c = c.requires.order.within c.order.place c.item_at-reaction.result c.item_at-reaction.ensures

pub level_of-requires : goal.level_of-requires
level_of-requires c = record { small = small }
  where
    before : List (List ℕ)
    before = c.args.before.now

    small : (i a : ℕ) → slice_get c.list_at.result.now i ≡ Some a → (k : ℕ) × (slice_get c.deref.result.now a ≡ Some k) × (k < 10000)
    small i a is =
        let member : slice_get (members_in before c.item_at-reaction.result) i ≡ Some a = ap (λ l. slice_get l i) (sym c.list_at.ensures) ∙ is in
        let k = member_small before c.args.order.now c.requires.order c.requires.inside c.order.levels.items c.order.place c.order.invariant c.item_at-reaction.result c.item_at-reaction.ensures i a member in
        let few = c.requires.few in
        let all = c.requires.order.as_long in
        let lt = c.order-test.true in
        let less = k.2 in
        (k.0, ap (λ l. slice_get l a) c.deref.ensures.value ∙ k.1, omega arith)

pub order-preserved : goal.order-preserved
order-preserved c =
    let before = c.args.before.now in
    let reaction = c.item_at-reaction.result in
    let is : IsLevelOf c.order.levels.items (members_in before reaction) (length (members_in before reaction)) c.level_of.result =
    subst (λ l. IsLevelOf c.order.levels.items l (length l) c.level_of.result) c.list_at.ensures (subst (λ l. IsLevelOf l c.list_at.result.now (length c.list_at.result.now) c.level_of.result) c.deref.ensures.value c.level_of.ensures)
    in
    levelled_more before c.args.order.now c.requires.order c.requires.inside c.order.levels.items c.order.place c.order.invariant reaction c.item_at-reaction.ensures c.level_of.result is

pub returns : goal.returns
returns c = are_levels c.args.before.now c.args.order.now c.requires.order c.requires.inside c.order.levels.items c.order.place c.order.invariant c.order-test.false
