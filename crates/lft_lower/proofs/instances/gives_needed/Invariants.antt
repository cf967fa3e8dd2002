use Rattle.std.proofs.Common.{◌≡◌, ◌≤◌, take}
use Rattle.std.specs.Prelude.{count_by}
use Rattle.lft_lower.specs.inner.Needed.{is_needed}
use Rattle.lft_lower.proofs.instances.gives_needed.Given as goal

abbrev pub invariant-loop-place : goal.invariant-loop-place
invariant-loop-place l = (l.count ≡ count_by (λ g. is_needed l.inner g.parameter) (take l.place l.child.given.items)) × (l.count ≤ l.place)
