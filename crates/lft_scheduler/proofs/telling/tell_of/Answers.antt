use Rattle.std.proofs.Common.{◌≡◌, ℕ, ◌<◌, length, IsTrue, refl, sym, ◌∙◌, subst, arith}
use Rattle.std.proofs.lemmas.Bool.{false≢true}
use Rattle.lft_lists.proofs.Places.{contains_at, at_contains}
use Rattle.lft_model.proofs.Places.{slice_get_within}
use Rattle.lft_scheduler.{specs.inner.Listeners.IsListener, proofs.ToldTurns.{told_none, told_begun, told_next, told_each, told_one}}
use Rattle.lft_scheduler.proofs.telling.tell_of.Goals as goal

pub returns-then-not-is_present : goal.returns-then-not-is_present
returns-then-not-is_present c = told_none (λ r. IsTrue c.args.is_present × IsListener c.args.plan.now.program c.args.trigger r) c.args.turn.now (λ r q. false≢true (sym c.if-not-is_present.true ∙ q.0))

pub loop-at-init : goal.loop-at-init
loop-at-init c = told_begun (λ (x k : ℕ). k ≡ x) c.of-reactions.result.now c.args.turn.now

pub trigger-requires : goal.trigger-requires
trigger-requires c =
    let its : IsListener c.args.plan.now.program c.args.trigger c.item_at.result = (c.of-reactions.ensures c.args.plan.now.program c.requires.listeners c.item_at.result).0 (contains_at c.of-reactions.result.now c.loop-at.at c.item_at.result c.item_at.ensures) in
    let l : c.item_at.result < length c.args.plan.now.program.reactions = slice_get_within c.args.plan.now.program.reactions c.item_at.result its.0 its.1 in
    let e = c.requires.phases in
    let k = c.loop-at.invariant.count in
    omega arith

pub loop-at-preserved : goal.loop-at-preserved
loop-at-preserved c =
    let its : IsListener c.args.plan.now.program c.args.trigger c.item_at.result = (c.of-reactions.ensures c.args.plan.now.program c.requires.listeners c.item_at.result).0 (contains_at c.of-reactions.result.now c.loop-at.at c.item_at.result c.item_at.ensures) in
    let l : c.item_at.result < length c.args.plan.now.program.reactions = slice_get_within c.args.plan.now.program.reactions c.item_at.result its.0 its.1 in
    let e = c.requires.phases in
    let k = c.loop-at.invariant.count in
    told_next (λ (x r : ℕ). r ≡ x) c.of-reactions.result.now c.loop-at.at c.item_at.result c.args.turn.now c.loop-at.turn c.trigger.new.self c.item_at.ensures c.loop-at.invariant (told_one c.loop-at.turn c.trigger.new.self c.item_at.result (omega arith) c.trigger.ensures.graph c.trigger.ensures.idle c.trigger.ensures.pending)

pub returns : goal.returns
returns c =
    let P = λ (r : ℕ). IsTrue c.args.is_present × IsListener c.args.plan.now.program c.args.trigger r in
    told_each (λ (x r : ℕ). r ≡ x) c.of-reactions.result.now P c.loop-at.at c.args.turn.now c.loop-at.turn (let z = c.loop-at-test.false in omega arith)
    (λ r k x e q. (c.if-not-is_present.false, subst (λ (y : ℕ). IsListener c.args.plan.now.program c.args.trigger y) (sym q) ((c.of-reactions.ensures c.args.plan.now.program c.requires.listeners x).0 (contains_at c.of-reactions.result.now k x e))))
    (λ r q. (let k = at_contains c.of-reactions.result.now r ((c.of-reactions.ensures c.args.plan.now.program c.requires.listeners r).1 q.1) in (k.0, r, k.1, refl)))
    c.loop-at.invariant
