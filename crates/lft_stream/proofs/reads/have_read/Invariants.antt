use Rattle.std.proofs.Common.{◌≡◌, ℕ, ◌<◌, ◌++◌, List, Some, slice_get}
use Rattle.lft_ir.specs.declared.steps.row.Row.{Row}
use Rattle.lft_model.specs.{Presence.Inputs, Runs.reads_at}
use Rattle.lft_stream.specs.inner.Present.{AreShown, IsKnown}
use Rattle.lft_stream.proofs.reads.have_read.Given as goal

abbrev pub invariant-loop-place : goal.invariant-loop-place
invariant-loop-place l = (d u : List Row) → AreShown l.plan d u l.slice.tag l.writes l.coming.queue → IsKnown l.plan u l.slice.tag l.coming.queue l.presence → (k r : ℕ) → k < l.place → slice_get l.started k ≡ Some r → Inputs l.plan (d ++ u) l.slice.tag r (reads_at l.plan l.rows l.slice.tag r)
