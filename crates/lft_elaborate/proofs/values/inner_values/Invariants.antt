use Rattle.std.proofs.Common.{◌≡◌, map, Some}
use Rattle.lft_elaborate.specs.{Channels.Channels.below, inner.Values.value_inside}
use Rattle.lft_elaborate.proofs.values.inner_values.Given as goal

abbrev pub invariant-loop-parameter : goal.invariant-loop-parameter
invariant-loop-parameter l = map (λ v. Some v) l.values.items ≡ map (value_inside l.given.outer.now (map (λ v. Some v) l.given.values.now) l.given.child.now.given.items l.inner) (below l.parameter)
