use Rattle.std.proofs.Common.{◌≡◌, ℕ, ◌<◌, ◌++◌, List, Some, slice_get}
use Rattle.lft_ir.specs.declared.{parts.Name.Name, steps.row.Row.Row}
use Rattle.lft_model.specs.{Presence.Shows, Runs.{read_of, steps_of}}
use Rattle.lft_stream.specs.inner.Present.{AreShown}
use Rattle.lft_stream.proofs.reads.has_read_each.Given as goal

abbrev pub invariant-loop-seat : goal.invariant-loop-seat
invariant-loop-seat l = (d u : List Row) → AreShown l.plan d u l.slice.tag l.writes l.coming.queue → (k : ℕ) (n : Name) → k < l.seat → slice_get l.names k ≡ Some n → Shows l.plan (d ++ u) l.slice.tag n (read_of (steps_of l.rows l.slice.tag l.reaction) n)
