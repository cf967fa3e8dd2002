use Rattle.std.proofs.Common.{ℕ, ◌<◌}
use Rattle.lft_driver.specs.Bundles.{IsMarkerLine}
use Rattle.lft_driver.proofs.bundle.cut.Given as goal

abbrev pub invariant-loop-place : goal.invariant-loop-place
invariant-loop-place l = (i : ℕ) → i < l.place → IsMarkerLine l.text l.marker i → ⊥
