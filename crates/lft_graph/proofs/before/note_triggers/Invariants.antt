use Rattle.std.proofs.Common.{◌≡◌, Some, slice_get}
use Rattle.lft_ir.specs.declared.parts.Trigger.TheVariants.{On}
use Rattle.lft_graph.specs.inner.Walks.{NotesBelow}
use Rattle.lft_graph.proofs.before.note_triggers.Given as goal

abbrev pub invariant-triggers : goal.invariant-triggers
invariant-triggers l = NotesBelow l.program (λ i n. slice_get l.triggers i ≡ Some (On n)) l.place l.initial.found.items l.found.items
