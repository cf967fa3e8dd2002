use Rattle.lft_tag.specs.{declared.Tag.Tag, Tags.{Before, UpTo}}
use Rattle.lft_facts.specs.inner.Neighbours.{IsNearestStart}
use Rattle.lft_facts.proofs.neighbours.run_before.Given as goal

abbrev pub invariant-loop-place : goal.invariant-loop-place
invariant-loop-place l = IsNearestStart (λ (k : Tag). Before k l.tag) UpTo l.rows l.reaction l.place l.run
