use Rattle.std.proofs.Common.{◌≡◌, map, take}
use Rattle.lft_validate.specs.inner.Members.{behind}
use Rattle.lft_validate.proofs.names.values.Given as goal

abbrev pub invariant-loop-assignment : goal.invariant-loop-assignment
invariant-loop-assignment l = behind l.found.items ≡ map (λ a. a.value) (take l.assignment-index l.given)
