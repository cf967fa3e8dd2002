use Rattle.std.proofs.Common.{◌≡◌, ℕ, take}
use Rattle.std.specs.{BTreeMap.get, Ordering.nat_cmp}
use Rattle.lft_pair.specs.inner.Answering.{last_to}
use Rattle.lft_pair.proofs.answers.written_by.Given as goal

abbrev pub invariant-loop-place : goal.invariant-loop-place
invariant-loop-place l = (p : ℕ) → get nat_cmp l.written p ≡ last_to (take l.place l.steps) p
