use Rattle.lft_tag.specs.{declared.Tag.Tag, Tags.{Before, UpTo}}
use Rattle.lft_facts.specs.inner.Neighbours.{IsNearestStart}
use Rattle.lft_facts.proofs.neighbours.run_after.Given as goal

abbrev pub invariant-loop-place : goal.invariant-loop-place
invariant-loop-place l = IsNearestStart (λ (k : Tag). Before l.tag k) (λ (k h : Tag). UpTo h k) l.rows l.reaction l.place l.run
