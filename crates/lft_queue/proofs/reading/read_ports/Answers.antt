use Rattle.std.proofs.Common.{◌≡◌, ◌↔◌, ◌⊎◌, ◌<◌, ◌+◌, ◌++◌, ℕ, List, Bool, true, Some, Contains, filter_map, ap, length, slice_get, drop, take, sym, ◌∙◌, subst, arith}
use Rattle.lft_ir.specs.{Naming.named, declared.parts.Name.{Name, TheVariants.Port}}
use Rattle.lft_lists.proofs.Places.{written_back}
use Rattle.lft_queue.{specs.inner.Reading.AreReadPortsMarked, proofs.Marking.{marked_start, marked_more, triggers_inside, marked_is}}
use Rattle.lft_queue.proofs.reading.read_ports.Goals as goal

pub reactions-init : goal.reactions-init
reactions-init c = marked_start c.args.program.now c.ports.result c.in_ok-marked.marked.items (c.in_ok-marked.ensures.items_if_clones_equal (λ y e. e)) c.ports.ensures.count

pub mark_all-requires : goal.mark_all-requires
mark_all-requires c = λ p m.
    let x = c.reaction-reaction.result.now in
    let l : p < length c.args.program.now.ports = triggers_inside c.args.program.now c.reaction-reaction.ensures.sound c.reactions.number x c.reaction-reaction.ensures.value p (subst (λ (ns : List Name). Contains ns (Port p)) c.names.ensures m) in
    let s = c.reactions.invariant.as_long in
    let e = c.deref_mut.ensures.len in
    omega arith

pub mark_all-requires-in-reactions : goal.mark_all-requires-in-reactions
mark_all-requires-in-reactions c = λ p m.
    let x = c.reaction-reaction.result.now in
    let l : p < length c.args.program.now.ports = (c.reaction-reaction.ensures.sound.exist c.reactions.number x c.reaction-reaction.ensures.value).uses (Port p) (subst (λ (ns : List Name). Contains ns (Port p)) c.as_slice.ensures m) in
    let s = c.reactions.invariant.as_long in
    let first = c.deref_mut.ensures.len in
    let same = ap length c.deref_mut.ensures.value in
    let e = c.deref_mut-in-reactions.ensures.len in
    omega arith

pub reactions-preserved : goal.reactions-preserved
reactions-preserved c =
    let program = c.args.program.now in
    let x = c.reaction-reaction.result.now in
    let old = c.reactions.marked.items in
    let mid = c.mark_all.new.marked in
    let new = c.mark_all-in-reactions.new.marked in
    let len = c.deref_mut.ensures.len in
    let same : c.deref_mut.result.now ≡ old = c.deref_mut.ensures.value in
    let mid_len = c.mark_all.ensures.count in
    let new_len = c.mark_all-in-reactions.ensures.count in
    let first : take c.reactions.marked.len (mid ++ drop (length mid) old) ≡ mid = written_back mid (drop (length mid) old) c.reactions.marked.len (omega arith) in
    let then : take c.reactions.marked.len (new ++ drop (length new) (take c.reactions.marked.len (mid ++ drop (length mid) old))) ≡ new = written_back new (drop (length new) (take c.reactions.marked.len (mid ++ drop (length mid) old))) c.reactions.marked.len (omega arith) in
    let was : c.deref_mut-in-reactions.result.now ≡ mid = c.deref_mut-in-reactions.ensures.value ∙ first in
    let triggers : (p : ℕ) → (slice_get mid p ≡ Some true) ↔ ((slice_get old p ≡ Some true) ⊎ Contains (filter_map named x.triggers) (Port p)) = subst (λ (ns : List Name). (p : ℕ) → (slice_get mid p ≡ Some true) ↔ ((slice_get old p ≡ Some true) ⊎ Contains ns (Port p))) c.names.ensures (subst (λ (ms : List Bool). (p : ℕ) → (slice_get mid p ≡ Some true) ↔ ((slice_get ms p ≡ Some true) ⊎ Contains c.names.result.now (Port p))) same c.mark_all.ensures.each) in
    let uses : (p : ℕ) → (slice_get new p ≡ Some true) ↔ ((slice_get mid p ≡ Some true) ⊎ Contains x.uses (Port p)) = subst (λ (ns : List Name). (p : ℕ) → (slice_get new p ≡ Some true) ↔ ((slice_get mid p ≡ Some true) ⊎ Contains ns (Port p))) c.as_slice.ensures (subst (λ (ms : List Bool). (p : ℕ) → (slice_get new p ≡ Some true) ↔ ((slice_get ms p ≡ Some true) ⊎ Contains c.as_slice.result.now (Port p))) was c.mark_all-in-reactions.ensures.each) in
    subst (λ (ms : List Bool). AreReadPortsMarked program (c.reactions.number + 1) ms) (sym then) (marked_more program c.reactions.number x old mid new c.reaction-reaction.ensures.value c.reactions.invariant (omega (arith, ap length was, ap length same)) triggers uses)

pub returns-clause-marked : goal.returns-clause-marked
returns-clause-marked c = subst (λ (k : ℕ). AreReadPortsMarked c.args.program.now k c.reactions.marked.items) (let a = c.reactions-test.false in let b = c.reactions.auto.number-end in let e = c.reactions-number-end.ensures.count in let z : c.reactions.number ≡ length c.args.program.now.reactions = omega arith in z) c.reactions.invariant

pub returns-clause-read : goal.returns-clause-read
returns-clause-read c = marked_is c.args.program.now c.reactions.marked.items (returns-clause-marked c)
