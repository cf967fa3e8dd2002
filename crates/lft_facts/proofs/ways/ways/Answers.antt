use Rattle.std.proofs.Common.{◌≡◌, ◌+◌, ◌-◌, ◌<◌, ℕ, List, Some, Bool, false, true, length, slice_get, sym, ap, ◌∙◌, subst, arith}
use Rattle.lft_lists.proofs.Places.{written_back}
use Rattle.lft_facts.{specs.inner.Ways.{LeadsOn, IsMarking}, proofs.Upstream.{WaysFrom, ways_pass, ways_mark, ways_end, list_there}}
use Rattle.lft_graph.proofs.Ancestry.{order_listed}
use Rattle.lft_facts.proofs.ways.ways.Goals as goal

-- the reaction at the place
pub leads_on-requires : goal.leads_on-requires
leads_on-requires c =
    let k = order_listed c.requires.graph.0 c.args.graph.now c.requires.graph.1 (c.loop-left.left - 1) c.item_at-reaction.result (ap (λ (xs : List ℕ). slice_get xs (c.loop-left.left - 1)) (sym c.by_level-order.ensures) ∙ c.item_at-reaction.ensures) in
    let l = c.loop-left.invariant.as_long in
    let e = ap length c.as_slice.ensures.value in
    omega arith

pub before-requires : goal.before-requires
before-requires c = order_listed c.requires.graph.0 c.args.graph.now c.requires.graph.1 (c.loop-left.left - 1) c.item_at-reaction.result (ap (λ (xs : List ℕ). slice_get xs (c.loop-left.left - 1)) (sym c.by_level-order.ensures) ∙ c.item_at-reaction.ensures)

pub mark-requires : goal.mark-requires
mark-requires c = list_there c.requires.graph.0 c.args.graph.now c.requires.graph.1 c.item_at-reaction.result c.before-then-leads_on.result.now c.before-then-leads_on.ensures (length c.as_mut_slice.result.now) (ap length c.as_mut_slice.ensures.value ∙ c.loop-left.invariant.as_long)

pub loop-left-preserved-then-leads_on : goal.loop-left-preserved-then-leads_on
loop-left-preserved-then-leads_on c =
    let i = c.loop-left.left - 1 in
    let at : slice_get c.args.graph.now.by_level i ≡ Some c.item_at-reaction.result = ap (λ (xs : List ℕ). slice_get xs i) (sym c.by_level-order.ensures) ∙ c.item_at-reaction.ensures in
    let l : 0 < c.loop-left.left = c.loop-left-test.true in
    let up : c.loop-left.left ≡ i + 1 = omega arith in
    let so_far : WaysFrom c.args.graph.now c.args.last (i + 1) c.loop-left.next.items = subst (λ n. WaysFrom c.args.graph.now c.args.last n c.loop-left.next.items) up c.loop-left.invariant in
    let on : LeadsOn c.args.last c.loop-left.next.items c.item_at-reaction.result = subst (λ ns. LeadsOn c.args.last ns c.item_at-reaction.result) c.as_slice.ensures.value (c.leads_on.ensures.0 c.if-leads_on.true) in
    let marking : IsMarking c.before-then-leads_on.result.now c.item_at-reaction.result c.loop-left.next.items c.mark.new.next = subst (λ ns. IsMarking c.before-then-leads_on.result.now c.item_at-reaction.result ns c.mark.new.next) c.as_mut_slice.ensures.value c.mark.ensures in
    let whole : length c.mark.new.next ≡ length c.as_mut_slice.result.now = c.mark.ensures.as_long in
    subst (λ ns. WaysFrom c.args.graph.now c.args.last i ns) (sym (written_back c.mark.new.next _ c.loop-left.next.len (sym (whole ∙ c.as_mut_slice.ensures.len)))) (ways_mark c.requires.graph.0 c.args.graph.now c.requires.graph.1 c.args.last i c.item_at-reaction.result at c.loop-left.next.items so_far on c.before-then-leads_on.result.now c.before-then-leads_on.ensures c.mark.new.next marking)

pub loop-left-preserved : goal.loop-left-preserved
loop-left-preserved c =
    let i = c.loop-left.left - 1 in
    let at : slice_get c.args.graph.now.by_level i ≡ Some c.item_at-reaction.result = ap (λ (xs : List ℕ). slice_get xs i) (sym c.by_level-order.ensures) ∙ c.item_at-reaction.ensures in
    let l : 0 < c.loop-left.left = c.loop-left-test.true in
    let up : c.loop-left.left ≡ i + 1 = omega arith in
    let so_far : WaysFrom c.args.graph.now c.args.last (i + 1) c.loop-left.next.items = subst (λ n. WaysFrom c.args.graph.now c.args.last n c.loop-left.next.items) up c.loop-left.invariant in
    ways_pass c.requires.graph.0 c.args.graph.now c.requires.graph.1 c.args.last i c.item_at-reaction.result at c.loop-left.next.items so_far (λ o. let z : ◌≡◌ {A = Bool} false true = sym c.if-leads_on.false ∙ c.leads_on.ensures.1 (subst (λ ns. LeadsOn c.args.last ns c.item_at-reaction.result) (sym c.as_slice.ensures.value) o) in absurd (cc))

pub returns : goal.returns
returns c =
    let n = c.loop-left-test.false in
    let z : c.loop-left.left ≡ 0 = omega arith in
    ways_end c.requires.graph.0 c.args.graph.now c.requires.graph.1 c.args.last c.loop-left.next.items (subst (λ k. WaysFrom c.args.graph.now c.args.last k c.loop-left.next.items) z c.loop-left.invariant)
