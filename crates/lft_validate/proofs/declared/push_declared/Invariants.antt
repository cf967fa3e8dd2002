use Rattle.std.proofs.Common.{◌≡◌, ◌++◌, filter_map, map, take}
use Rattle.lft_validate.specs.{Findings.name_at, Members.declared}
use Rattle.lft_validate.proofs.declared.push_declared.Given as goal

abbrev pub invariant-loop-member : goal.invariant-loop-member
invariant-loop-member l = map name_at l.names.items ≡ map name_at l.initial.names.items ++ filter_map declared (take l.member-index l.members)
