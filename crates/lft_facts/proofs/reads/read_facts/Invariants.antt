use Rattle.lft_facts.proofs.WrongReads.{Told}
use Rattle.lft_facts.proofs.reads.read_facts.Given as goal

abbrev pub invariant-loop-place : goal.invariant-loop-place
invariant-loop-place l = Told l.plan l.rows l.tag l.reaction l.start l.names l.was l.present l.place l.facts.items
