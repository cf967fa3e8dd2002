use Rattle.std.proofs.Common.{◌≡◌, ◌++◌, ◌+◌, length, replicate, None, ap, ◌∙◌, sym, subst, arith, List, ℕ, take, map}
use Rattle.std.proofs.lemmas.List.{take_all}
use Rattle.lft_counts.specs.{declared.orders.Order.Order, Orders.{orders_from, unmet}}
use Rattle.lft_counts.proofs.Laying.{IsPushed, inside, pushed, laying_more, orders_more, stand_so}
use Rattle.lft_counts.proofs.orders.Orders.new.Goals as goal

pub loop-reaction-preserved : goal.loop-reaction-preserved
loop-reaction-preserved c =
    let n = length c.args.program.now.reactions in
    let r = c.loop-reaction.reaction in
    let list = c.before-in-loop-reaction.result.now in
    let old = c.loop-reaction.all.items in
    let is_pushed : IsPushed (length c.args.program.now.reactions) c.loop-reaction.reaction c.loop-reaction.all.items (c.loop-reaction.all.items ++ map (unmet c.loop-reaction.reaction) c.before-in-loop-reaction.result.now) = pushed n r old list (inside c.args.program.now r list (c.requires.before r list c.before-in-loop-reaction.ensures)) in
    let now : c.push_orders.new.all.items ≡ c.loop-reaction.all.items ++ map (unmet c.loop-reaction.reaction) c.before-in-loop-reaction.result.now = c.in_ok-push_orders.ensures in
    let all : c.push_orders.new.all.items ≡ orders_from 0 (take (c.loop-reaction.reaction + 1) c.args.graph.now.before) = now ∙ ap (λ (z : List Order). z ++ map (unmet r) list) c.loop-reaction.invariant.1 ∙ ap (λ k. orders_from 0 (take r c.args.graph.now.before) ++ map (unmet k) list) (let z : r ≡ 0 + r = omega arith in z) ∙ sym (orders_more 0 c.args.graph.now.before r list c.before-in-loop-reaction.ensures) in
    let laid = laying_more n r old c.push_orders.new.all.items c.loop-reaction.begins.items c.loop-reaction.invariant.0 (subst (λ (z : List Order). IsPushed n r old z) (sym now) is_pushed) in
    rw (c.in_ok-push-2.ensures.items, c.as_slice.ensures.value) (laid, all)

pub returns-clause-stands : goal.returns-clause-stands
returns-clause-stands c t = stand_so t (length c.args.program.now.reactions) c.loop-reaction.reaction _ (omega arith) c.loop-reaction.invariant.0 (c.in_ok-lasts.ensures ∙ ap (λ n. replicate n None) c.reactions-2.ensures.count)

pub returns-clause-all : goal.returns-clause-all
returns-clause-all c = c.loop-reaction.invariant.1 ∙ ap (λ (z : List (List ℕ)). orders_from 0 z) (take_all c.loop-reaction.reaction c.args.graph.now.before (let l = c.requires.as_long in omega (arith, l)))
