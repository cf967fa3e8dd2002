use Rattle.std.proofs.Common.{◌≡◌, map, take}
use Rattle.lft_resolve.specs.inner.Tests.{texts}
use Rattle.lft_classes.proofs.shapes.names_of.Given as goal

abbrev pub invariant-loop-place : goal.invariant-loop-place
invariant-loop-place l = texts l.names.items ≡ map (λ m. m.name.now) (take l.place l.all)
