use Rattle.std.proofs.Common.{◌≡◌, flat_map, take}
use Rattle.lft_validate.specs.{Members.names_of, inner.Members.behind}
use Rattle.lft_validate.proofs.sources.all_names.Given as goal

abbrev pub invariant-loop-member : goal.invariant-loop-member
invariant-loop-member l = behind l.found.items ≡ flat_map (names_of l.role) (take l.member-index l.member-items)
