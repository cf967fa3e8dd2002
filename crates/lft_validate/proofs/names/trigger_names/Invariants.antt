use Rattle.std.proofs.Common.{◌≡◌, filter_map, take}
use Rattle.lft_validate.specs.{Members.name_among, inner.Members.behind}
use Rattle.lft_validate.proofs.names.trigger_names.Given as goal

abbrev pub invariant-loop-trigger : goal.invariant-loop-trigger
invariant-loop-trigger l = behind l.found.items ≡ filter_map name_among (take l.trigger-index l.triggers)
