use Rattle.std.proofs.Common.{◌≡◌, subst, length, Some, slice_get, arith, List, Contains}
use Rattle.lft_ir.specs.declared.parts.{Name.Name, Trigger.{Trigger, TheVariants.On}}
use Rattle.lft_graph.specs.inner.Walks.{NotesBelow}
use Rattle.lft_graph.proofs.Feeding.{Begins, begins_none, begins_one, is_before, is_covered}
use Rattle.lft_graph.proofs.before.before_of.Goals.{then-reaction-gt0+in_ok-push, else-reaction-gt0}
use Rattle.lft_graph.proofs.before.before_of.Goals as goal

pub note_triggers-requires-clause-named : goal.note_triggers-requires-clause-named
note_triggers-requires-clause-named c n m =
    (c.reaction-reaction.ensures.sound.exist c.args.number c.reaction-reaction.result.now c.reaction-reaction.ensures.value).triggers (On n) (subst (λ (l : List Trigger). Contains l (On n)) c.as_slice.ensures m)

pub note_uses-requires-clause-named : goal.note_uses-requires-clause-named
note_uses-requires-clause-named c n m =
    (c.reaction-reaction.ensures.sound.exist c.args.number c.reaction-reaction.result.now c.reaction-reaction.ensures.value).uses n (subst (λ (l : List Name). Contains l n) c.as_slice-2.ensures m)

begins : (c : goal.After-from_vec) → Begins c.args.program.now c.reaction-reaction.ensures.sound c.args.number c.reaction-reaction.result.now c.reaction-reaction.ensures.value c.if-reaction-gt0.found.items
begins c =
    elim c.if-reaction-gt0.branch [
      | then-reaction-gt0+in_ok-push w ↦ (rw w.found-is (rw w.in_ok-push.ensures.items (rw c.new-found.ensures.items (begins_one c.args.program.now c.reaction-reaction.ensures.sound c.args.number c.reaction-reaction.result.now c.reaction-reaction.ensures.value w.if-reaction-gt0.true))))
      | else-reaction-gt0 w ↦ (rw w.found-is (rw c.new-found.ensures.items (begins_none c.args.program.now c.reaction-reaction.ensures.sound c.args.number c.reaction-reaction.result.now c.reaction-reaction.ensures.value (let l = w.if-reaction-gt0.false in omega arith))))
    ]

triggers : (c : goal.After-from_vec) → NotesBelow c.args.program.now (λ i n. slice_get c.reaction-reaction.result.now.triggers i ≡ Some (On n)) (length c.reaction-reaction.result.now.triggers) c.if-reaction-gt0.found.items c.note_triggers.new.found.items
triggers c = subst (λ (l : List Trigger). NotesBelow c.args.program.now (λ i n. slice_get l i ≡ Some (On n)) (length l) c.if-reaction-gt0.found.items c.note_triggers.new.found.items) c.as_slice.ensures c.in_ok-note_triggers.ensures

uses : (c : goal.After-from_vec) → NotesBelow c.args.program.now (λ i n. slice_get c.reaction-reaction.result.now.uses i ≡ Some n) (length c.reaction-reaction.result.now.uses) c.note_triggers.new.found.items c.note_uses.new.found.items
uses c = subst (λ (l : List Name). NotesBelow c.args.program.now (λ i n. slice_get l i ≡ Some n) (length l) c.note_triggers.new.found.items c.note_uses.new.found.items) c.as_slice-2.ensures c.in_ok-note_uses.ensures

pub returns-clause-before : goal.returns-clause-before
returns-clause-before c = rw c.from_vec.ensures (is_before c.args.program.now c.reaction-reaction.ensures.sound c.args.number c.reaction-reaction.result.now c.reaction-reaction.ensures.value c.if-reaction-gt0.found.items c.note_triggers.new.found.items c.note_uses.new.found.items c.ascending.result.items (begins c) (triggers c) (uses c) c.ascending.ensures.ascends c.ascending.ensures.members)

pub returns-clause-covers : goal.returns-clause-covers
returns-clause-covers c = rw c.from_vec.ensures (is_covered c.args.program.now c.reaction-reaction.ensures.sound c.args.number c.reaction-reaction.result.now c.reaction-reaction.ensures.value c.if-reaction-gt0.found.items c.note_triggers.new.found.items c.note_uses.new.found.items c.ascending.result.items (begins c) (triggers c) (uses c) c.ascending.ensures.ascends c.ascending.ensures.members)
