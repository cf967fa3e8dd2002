use Rattle.lft_rows.specs.Presence.Traces.{LeastTag}
use Rattle.lft_check.{specs.inner.ByTag.Least.AreTriggered, proofs.ByTagLemmas.Missed.LacksBefore}
use Rattle.lft_check.proofs.by_tag.missing.lacked.Given as goal

abbrev pub invariant-loop-place : goal.invariant-loop-place
invariant-loop-place l = record { known : AreTriggered l.presence l.reaction l.tags l.known; least : LeastTag (LacksBefore l.presence l.triggers l.place l.low l.tags) l.least }
