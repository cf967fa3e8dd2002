use Rattle.std.proofs.Common.{◌≡◌, map, Some}
use Rattle.lft_elaborate.specs.{Channels.Channels.below, inner.Values.main_value}
use Rattle.lft_elaborate.proofs.values.main_values.Given as goal

abbrev pub invariant-loop-parameter : goal.invariant-loop-parameter
invariant-loop-parameter l = map (λ v. Some v) l.values.items ≡ map (main_value l.main) (below l.parameter)
