use Rattle.std.proofs.Common.{◌≡◌, map, take}
use Rattle.lft_program.specs.inner.OwnNames.{name_lists, own_names}
use Rattle.lft_resolve.specs.inner.References.{reactor_trees}
use Rattle.lft_program.proofs.own_names.own_names.Given as goal

abbrev pub invariant-loop-reactor : goal.invariant-loop-reactor
invariant-loop-reactor l = name_lists l.lists.items ≡ map (own_names l.kind) (reactor_trees (take l.reactor-index l.reactors))
