use Rattle.std.proofs.Common.{◌≡◌, ◌↔◌, ◌⊎◌, ◌+◌, ◌++◌, ℕ, List, Bool, true, Some, length, slice_get, take, drop, ap, subst, sym, ◌∙◌, arith, Contains}
use Rattle.lft_ir.specs.declared.parts.Trigger.{Trigger, TheVariants.Timer}
use Rattle.lft_lists.proofs.Places.{written_back}
use Rattle.lft_scheduler.{specs.inner.{Listeners.IsLeader, Filling.AreLeading}, proofs.Leaders.{leading_start, leading_more}}
use Rattle.lft_scheduler.proofs.listeners.leading.leading.Goals as goal

pub reactions-init : goal.reactions-init
reactions-init c = leading_start c.args.program.now c.timers.result c.in_ok-marked.marked.items (c.in_ok-marked.ensures.items_if_clones_equal (λ y e. e)) c.timers.ensures.count

pub mark_leaders-requires-clause-known : goal.mark_leaders-requires-clause-known
mark_leaders-requires-clause-known c n m = (c.reaction.ensures.sound.exist c.reactions.number c.reaction.result.now c.reaction.ensures.value).triggers (Timer n) (subst (λ (ts : List Trigger). Contains ts (Timer n)) c.as_slice-triggers.ensures m)

pub mark_leaders-requires-clause-as_long : goal.mark_leaders-requires-clause-as_long
mark_leaders-requires-clause-as_long c = (let a = c.reactions.invariant.as_long in let e = c.deref_mut.ensures.len in let same = ap length c.deref_mut.ensures.value in omega arith)

pub reactions-preserved : goal.reactions-preserved
reactions-preserved c =
    let program = c.args.program.now in
    let x = c.reaction.result.now in
    let old = c.reactions.marked.items in
    let new = c.mark_leaders.new.marked in
    let len = c.deref_mut.ensures.len in
    let same : c.deref_mut.result.now ≡ old = c.deref_mut.ensures.value in
    let count = c.mark_leaders.ensures.count in
    let back : take c.reactions.marked.len (new ++ drop (length new) old) ≡ new = written_back new (drop (length new) old) c.reactions.marked.len (omega arith) in
    let each : (n : ℕ) → (slice_get new n ≡ Some true) ↔ ((slice_get old n ≡ Some true) ⊎ IsLeader program x.triggers n) = subst (λ (ts : List Trigger). (n : ℕ) → (slice_get new n ≡ Some true) ↔ ((slice_get old n ≡ Some true) ⊎ IsLeader program ts n)) c.as_slice-triggers.ensures (subst (λ (ms : List Bool). (n : ℕ) → (slice_get new n ≡ Some true) ↔ ((slice_get ms n ≡ Some true) ⊎ IsLeader program c.as_slice-triggers.result.now n)) same c.in_ok-mark_leaders.ensures.each) in
    subst (λ (ms : List Bool). AreLeading program (c.reactions.number + 1) ms) (sym back) (leading_more program c.reactions.number x old new c.reaction.ensures.value c.reactions.invariant (count ∙ ap length same) each)

pub returns : goal.returns
returns c =
    let n : c.reactions.number ≡ length c.args.program.now.reactions = (let z = c.reactions-test.false in let a = c.reactions.auto.number-end in let e = c.reactions-number-end.ensures.count in omega arith) in
    subst (λ (k : ℕ). AreLeading c.args.program.now k c.reactions.marked.items) n c.reactions.invariant
