use Rattle.std.proofs.Common.{◌≡◌, map, take}
use Rattle.lft_tree.specs.{Tree.nanoseconds, View.parameter_view}
use Rattle.lft_resolve.specs.inner.Sheets.{kept}
use Rattle.lft_resolve.proofs.by_number.settings.default_times.Given as goal

abbrev pub invariant-loop-parameter : goal.invariant-loop-parameter
invariant-loop-parameter l = l.defaults.items ≡ map (λ x. kept (nanoseconds x.default)) (map parameter_view (take l.parameter-index l.parameters))
