use Rattle.lft_facts.proofs.Untriggered.{Untold}
use Rattle.lft_facts.proofs.triggers.not_triggered.Given as goal

abbrev pub invariant-loop-place : goal.invariant-loop-place
invariant-loop-place l = Untold l.plan l.rows l.tag l.reaction l.start l.triggers l.place l.facts.items
