use Rattle.std.proofs.Common.{◌<◌, Any, map, take}
use Rattle.lft_tree.specs.{Tree.nanoseconds, View.parameter_view}
use Rattle.lft_resolve.specs.Causes.{longest}
use Rattle.lft_validate.proofs.mains.long_default_in.Given as goal

abbrev pub invariant-loop-parameter : goal.invariant-loop-parameter
invariant-loop-parameter l = Any (λ p. longest < nanoseconds p.default) (map parameter_view (take l.parameter-index l.parameter-items)) → ⊥
