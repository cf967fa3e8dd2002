use Rattle.std.proofs.Common.{take}
use Rattle.lft_facts.specs.inner.Ways.{IsMarking}
use Rattle.lft_facts.proofs.ways.mark.Given as goal

abbrev pub invariant-loop-place : goal.invariant-loop-place
invariant-loop-place l = IsMarking (take l.place l.list) l.number l.initial.next l.next
