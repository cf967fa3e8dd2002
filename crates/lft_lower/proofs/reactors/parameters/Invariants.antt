use Rattle.std.proofs.Common.{◌≡◌, filter_map, length, map, take}
use Rattle.lft_tree.specs.{View.parameter_view, declared.tree.Parameter.Parameter}
use Rattle.lft_elaborate.specs.Channels.Channels.{below}
use Rattle.lft_lower.{specs.inner.{Reactors.timed_parameter, Standing.parameter_token}, proofs.Defaults.HaveDefaults}
use Rattle.lft_lower.proofs.reactors.parameters.Given as goal

abbrev pub invariant-loop-number : goal.invariant-loop-number
invariant-loop-number l = (map parameter_view l.list.items ≡ filter_map (timed_parameter l.shape) (take l.number (below (length l.shape.parameters.items)))) × (map (λ (p : Parameter). p.at) l.list.items ≡ filter_map (parameter_token l.maker.files.now l.shape) (take l.number (below (length l.shape.parameters.items)))) × HaveDefaults l.is_main l.shape l.number
