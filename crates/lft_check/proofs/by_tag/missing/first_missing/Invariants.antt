use Rattle.std.proofs.Common.{ℕ}
use Rattle.lft_tag.specs.{declared.Tag.Tag, Tags.UpTo}
use Rattle.lft_check.{specs.inner.ByTag.{Indexes.AreTriggeredRows, Slices.IsMissingRun}, proofs.ByTagLemmas.Missed.FirstBelow}
use Rattle.lft_check.proofs.by_tag.missing.first_missing.Given as goal

abbrev pub invariant-loop-reaction : goal.invariant-loop-reaction
invariant-loop-reaction l = record { due : AreTriggeredRows l.presence l.due; first : FirstBelow (λ (r : ℕ) (g : Tag). IsMissingRun l.presence r g × UpTo l.low g) l.reaction l.first }
