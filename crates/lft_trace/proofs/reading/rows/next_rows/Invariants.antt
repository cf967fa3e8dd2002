use Rattle.std.proofs.Common.{◌≡◌, ◌<◌, IfSome, length}
use Rattle.lft_trace.specs.inner.Batches.{AreNext}
use Rattle.lft_trace.proofs.reading.rows.next_rows.Given as goal

abbrev pub invariant-loop-place : goal.invariant-loop-place
invariant-loop-place g l = record {
  next : AreNext g.R.Read.remaining l.names l.fn.records l.records l.rows.items;
  long : length l.rows.items ≡ l._place;
  last : IfSome l.last (λ r. r < length l.names.reactions);
}
