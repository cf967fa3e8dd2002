use Rattle.std.proofs.Common.{◌≡◌, map, take}
use Rattle.lft_resolve.specs.inner.Tests.{texts}
use Rattle.lft_classes.proofs.scopes.names_of.Given as goal

abbrev pub invariant-loop-meaning : goal.invariant-loop-meaning
invariant-loop-meaning l = texts l.names.items ≡ map (λ m. m.name.now) (take l.meaning-index l.meanings)
