use Rattle.lft_rows.proofs.Marked.{AreLaidTo}
use Rattle.lft_rows.proofs.marks.Marks.new.Given as goal

abbrev pub invariant-loop-number : goal.invariant-loop-number
invariant-loop-number l = AreLaidTo l.program.reactions l.number l.inputs.items l.firsts.items l.places.items
