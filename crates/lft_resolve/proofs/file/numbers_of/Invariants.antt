use Rattle.std.proofs.Common.{◌≡◌, take}
use Rattle.lft_resolve.specs.inner.{Numbers.numbers_of, References.reactor_trees}
use Rattle.lft_resolve.proofs.file.numbers_of.Given as goal

abbrev pub invariant-loop-number : goal.invariant-loop-number
invariant-loop-number l = l.numbers.items ≡ numbers_of 0 (reactor_trees (take l.number l.reactors))
