use Rattle.std.proofs.Common.{◌≡◌, length, map, take}
use Rattle.lft_program.proofs.nesting.counts.port_counts.Given as goal

abbrev pub invariant-loop-reactor : goal.invariant-loop-reactor
invariant-loop-reactor l = l.counts.items ≡ map (λ x. length x.inputs.items) (take l.reactor-index l.table)
