use Rattle.std.proofs.Common.{◌≡◌, ℕ, ◌<◌, List, Some, slice_get}
use Rattle.lft_ir.specs.declared.steps.row.Row.{Row}
use Rattle.lft_model.specs.Runs.{Ran}
use Rattle.lft_stream.specs.inner.StartTags.{AreStartTags}
use Rattle.lft_stream.proofs.hearing.have_started.Given as goal

abbrev pub invariant-loop-place : goal.invariant-loop-place
invariant-loop-place l = (whole : List Row) → AreStartTags l.program whole l.starts → (k r : ℕ) → k < l.place → slice_get l.reactions k ≡ Some r → Ran whole l.tag r
