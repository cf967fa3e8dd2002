use Rattle.std.proofs.Common.{◌≡◌, ◌<◌, ◌≤◌, ◌++◌, ℕ, List, Some, slice_get}
use Rattle.lft_ir.specs.declared.{parts.{Name.Name, Value.Value}, steps.row.{Row.Row, Step.TheVariants.Read}}
use Rattle.lft_model.specs.Presence.{Shows}
use Rattle.lft_stream.specs.inner.Present.{AreShown}
use Rattle.lft_stream.proofs.reads.are_reads_shown.Given as goal

abbrev pub invariant-loop-place : goal.invariant-loop-place
invariant-loop-place l = (d u : List Row) → AreShown l.plan d u l.slice.tag l.writes l.coming.queue → (i : ℕ) (x : Row) (n : Name) (v : Value) → l.slice.first ≤ i → i < l.place → slice_get l.rows i ≡ Some x → x.step ≡ Read n v → Shows l.plan (d ++ u) l.slice.tag n (Some v)
