use Rattle.lft_facts.specs.inner.Ways.{IsLeastEnd}
use Rattle.lft_facts.proofs.early.least_end.Given as goal

abbrev pub invariant-loop-place : goal.invariant-loop-place
invariant-loop-place l = IsLeastEnd l.rows l.tag l.next l.start l.place l.least
