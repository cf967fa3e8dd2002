use Rattle.std.proofs.Common.{◌≡◌, ℕ, ◌<◌, ◌++◌, List, Some, slice_get}
use Rattle.lft_ir.specs.declared.steps.row.Row.{Row}
use Rattle.lft_model.specs.Presence.{Triggered}
use Rattle.lft_stream.specs.inner.{Dues.{AreDues, AreDuesAt}, Present.AreShown}
use Rattle.lft_stream.proofs.stream.are_triggered.Given as goal

abbrev pub invariant-loop-place : goal.invariant-loop-place
invariant-loop-place l = record { dues : (t : List Row) → AreDuesAt l.plan t l.started l.tag l.last l.fn.dues → AreDues l.plan t l.dues; triggered : (d u : List Row) → AreDuesAt l.plan (d ++ u) l.started l.tag l.last l.fn.dues → AreShown l.plan d u l.tag l.writes l.coming.queue → (k r : ℕ) → k < l.place → slice_get l.started k ≡ Some r → Triggered l.plan (d ++ u) l.tag r }
