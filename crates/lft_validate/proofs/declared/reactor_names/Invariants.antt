use Rattle.std.proofs.Common.{◌≡◌, filter_map, map, take}
use Rattle.lft_validate.specs.{Findings.name_at, Members.own_name, inner.Members.behind}
use Rattle.lft_validate.proofs.declared.reactor_names.Given as goal

abbrev pub invariant-loop-reactor : goal.invariant-loop-reactor
invariant-loop-reactor l = map name_at l.names.items ≡ filter_map own_name (behind (take l.reactor-index l.reactors))
