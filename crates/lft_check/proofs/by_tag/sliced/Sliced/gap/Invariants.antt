use Rattle.lft_check.{specs.ByTag.Slices.IsVacant, proofs.ByTagLemmas.Missed.FirstBelow}
use Rattle.lft_check.proofs.by_tag.sliced.Sliced.gap.Given as goal

abbrev pub invariant-loop-reaction : goal.invariant-loop-reaction
invariant-loop-reaction l = FirstBelow (IsVacant l.self) l.reaction l.first
