use Rattle.std.proofs.Common.{◌≡◌, ◌↔◌, ℕ, ◌+◌, List, Contains, IsSome, [], ◌∷◌, drop, IsTrue, true, refl, sym, ap, ◌∙◌, subst, add-one, rules}
use Rattle.lft_ir.specs.declared.parts.{Name.Name, Trigger.TheVariants.On}
use Rattle.lft_queue.specs.Pending.{value_of}
use Rattle.lft_lists.proofs.Places.{contains_at, at_contains}
use Rattle.lft_scheduler.{specs.inner.Listeners.IsListener, proofs.ToldTurns.{told_as, told_begun, told_next, told_each, drop_head, drop_none}}
use Rattle.lft_scheduler.proofs.telling.tell_names.Goals as goal

pub loop-name-init : goal.loop-name-init
loop-name-init c = (0, refl, told_begun (λ (n : Name) (r : ℕ). IsListener c.args.plan.now.program (On n) r) c.into_iter-name-iterator.result c.args.turn.now)

pub loop-name-preserved : goal.loop-name-preserved
loop-name-preserved c =
    let P = λ (n : Name) (r : ℕ). IsListener c.args.plan.now.program (On n) r in
    let xs = c.into_iter-name-iterator.result in
    let k = c.loop-name.invariant.0 in
    let steps : c.loop-name.name-iterator ≡ c.in-Some.name ∷ c.next.new.self = search rules in
    let h = drop_head xs k c.in-Some.name c.next.new.self (c.loop-name.invariant.1 ∙ steps) in
    (k + 1, ap (λ (j : ℕ). drop j xs) (add-one k) ∙ h.1, told_next P xs k c.in-Some.name c.args.turn.now c.loop-name.turn c.tell_of.new.turn h.0 c.loop-name.invariant.2 (told_as (λ r. IsTrue true × P c.in-Some.name r) (P c.in-Some.name) c.loop-name.turn c.tell_of.new.turn (λ r p. p.1) (λ r p. (refl, p)) c.tell_of.ensures))

pub returns : goal.returns
returns c =
    let P = λ (n : Name) (r : ℕ). IsListener c.args.plan.now.program (On n) r in
    let xs = c.into_iter-name-iterator.result in
    let k = c.loop-name.invariant.0 in
    let none : c.loop-name.name-iterator ≡ [] = search rules in
    let items : xs ≡ c.names_at-name-items.result = search rules in
    let has : (n : Name) → Contains xs n ↔ IsSome (value_of c.args.tag n c.args.queue.now) = subst (λ (ns : List Name). (n : Name) → Contains ns n ↔ IsSome (value_of c.args.tag n c.args.queue.now)) (sym items) c.names_at-name-items.ensures in
    told_each P xs (λ r. (n : Name) × IsSome (value_of c.args.tag n c.args.queue.now) × IsListener c.args.plan.now.program (On n) r) k c.args.turn.now c.loop-name.turn (drop_none xs k (c.loop-name.invariant.1 ∙ none))
    (λ r j n e p. (n, (has n).0 (contains_at xs j n e), p))
    (λ r p. (let j = at_contains xs p.0 ((has p.0).1 p.1) in (j.0, p.0, j.1, p.2)))
    c.loop-name.invariant.2
