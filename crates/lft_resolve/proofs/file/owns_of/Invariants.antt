use Rattle.std.proofs.Common.{take}
use Rattle.std.specs.List.{AllZip}
use Rattle.lft_resolve.specs.inner.{References.reactor_trees, Tables.IsOwn}
use Rattle.lft_resolve.proofs.file.owns_of.Given as goal

abbrev pub invariant-loop-reactor : goal.invariant-loop-reactor
invariant-loop-reactor l = AllZip IsOwn (reactor_trees (take l.reactor-index l.reactors)) l.owns.items
