use Rattle.std.proofs.Common.{◌≡◌, ℕ, ℤ, List, None, length}
use Rattle.lft_elaborate.specs.inner.Noted.{noted_for}
use Rattle.lft_elaborate.proofs.settings.Settings.of.Given as goal

abbrev pub invariant-loop : goal.invariant-loop
invariant-loop l = record {
  long : length l.known.items ≡ l.counter;
  none : (shape : ℕ) (q : List ℤ) → noted_for l.known.items shape q ≡ None;
}
