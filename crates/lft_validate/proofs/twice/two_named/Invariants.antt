use Rattle.std.proofs.Common.{◌≡◌, map, take}
use Rattle.lft_resolve.specs.inner.Tests.{texts}
use Rattle.lft_validate.proofs.twice.two_named.Given as goal

abbrev pub invariant-loop-name : goal.invariant-loop-name
invariant-loop-name l = texts l.texts.items ≡ map (λ n. n.name.now) (take l.name-index l.names)
