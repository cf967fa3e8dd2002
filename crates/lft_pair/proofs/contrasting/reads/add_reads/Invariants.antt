use Rattle.lft_pair.proofs.Added.{ReadTo}
use Rattle.lft_pair.proofs.contrasting.reads.add_reads.Given as goal

abbrev pub invariant-loop-place : goal.invariant-loop-place
invariant-loop-place l = ReadTo l.plan l.rows l.others l.fn.tag l.reaction l.names l.fn.told.items l.place l.told.items
