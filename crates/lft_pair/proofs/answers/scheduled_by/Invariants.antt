use Rattle.std.proofs.Common.{◌≡◌, ℕ, take, length, unwrap_or, slice_get}
use Rattle.std.specs.{BTreeMap.get, Ordering.nat_cmp}
use Rattle.lft_pair.{specs.inner.Answering.place_cmp, proofs.Answering.scheduled_for}
use Rattle.lft_pair.proofs.answers.scheduled_by.Given as goal

abbrev pub invariant-loop-place : goal.invariant-loop-place
invariant-loop-place l = record {
  count : (a : ℕ) → unwrap_or (get nat_cmp l.counts a) 0 ≡ length (scheduled_for (take l.place l.steps) a);
  each : (a k : ℕ) → get place_cmp l.scheduled (a, k) ≡ slice_get (scheduled_for (take l.place l.steps) a) k;
}
