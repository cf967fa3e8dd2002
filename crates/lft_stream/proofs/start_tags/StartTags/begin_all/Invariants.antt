use Rattle.std.proofs.Common.{◌≡◌, ℕ, List, length, Contains}
use Rattle.lft_ir.specs.declared.steps.row.Row.{Row}
use Rattle.lft_model.specs.Runs.{Ran}
use Rattle.lft_stream.specs.inner.StartTags.{AreStartTags}
use Rattle.lft_stream.proofs.start_tags.StartTags.begin_all.Given as goal

abbrev pub invariant-loop-place : goal.invariant-loop-place
invariant-loop-place l = record { long : length l.self ≡ length l.program.reactions; starts : (whole : List Row) → ((r : ℕ) → Contains l.started r → Ran whole l.tag r) → AreStartTags l.program whole l.fn.self → AreStartTags l.program whole l.self }
