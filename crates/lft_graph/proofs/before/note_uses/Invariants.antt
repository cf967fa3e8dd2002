use Rattle.std.proofs.Common.{◌≡◌, Some, slice_get}
use Rattle.lft_graph.specs.inner.Walks.{NotesBelow}
use Rattle.lft_graph.proofs.before.note_uses.Given as goal

abbrev pub invariant-uses : goal.invariant-uses
invariant-uses l = NotesBelow l.program (λ i n. slice_get l.uses i ≡ Some n) l.place l.initial.found.items l.found.items
