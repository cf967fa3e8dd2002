use Rattle.std.proofs.Common.{◌≡◌, map, take}
use Rattle.lft_resolve.specs.inner.References.{port_trees}
use Rattle.lft_resolve.proofs.by_number.declaring.port_inputs.Given as goal

abbrev pub invariant-loop-port : goal.invariant-loop-port
invariant-loop-port l = l.inputs.items ≡ map (λ x. x.is_input) (port_trees (take l.port-index l.ports))
