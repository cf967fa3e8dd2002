use Rattle.std.proofs.Common.{◌≡◌, map, string_bytes, take}
use Rattle.lft_resolve.specs.inner.Tests.{texts}
use Rattle.lft_classes.proofs.making.given_names.Given as goal

abbrev pub invariant-loop-assignment : goal.invariant-loop-assignment
invariant-loop-assignment l = texts l.names.items ≡ map (λ a. string_bytes a.name.text) (take l.assignment-index l.given)
