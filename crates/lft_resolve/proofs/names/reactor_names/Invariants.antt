use Rattle.std.proofs.Common.{◌≡◌, filter_map, take}
use Rattle.lft_resolve.specs.inner.{References.reactor_trees, Tests.texts}
use Rattle.lft_resolve.proofs.names.reactor_names.Given as goal

abbrev pub invariant-loop-reactor : goal.invariant-loop-reactor
invariant-loop-reactor l = texts l.names.items ≡ filter_map (λ r. r.name) (reactor_trees (take l.reactor-index l.reactors))
