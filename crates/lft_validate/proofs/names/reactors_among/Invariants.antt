use Rattle.std.proofs.Common.{◌≡◌, take}
use Rattle.lft_validate.specs.{Members.reactors_among, inner.Members.behind}
use Rattle.lft_validate.proofs.names.reactors_among.Given as goal

abbrev pub invariant-loop-item : goal.invariant-loop-item
invariant-loop-item l = behind l.found.items ≡ reactors_among (take l.item-index l.items)
