use Rattle.std.proofs.Common.{◌≡◌, map, take}
use Rattle.lft_tree.specs.View.{parameter_view}
use Rattle.lft_resolve.specs.inner.Tests.{texts}
use Rattle.lft_resolve.proofs.names.parameter_names.Given as goal

abbrev pub invariant-loop-parameter : goal.invariant-loop-parameter
invariant-loop-parameter l = texts l.names.items ≡ map (λ x. x.name) (map parameter_view (take l.parameter-index l.parameters))
