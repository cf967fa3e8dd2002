use Rattle.std.proofs.Common.{◌≡◌, ◌++◌, map, take}
use Rattle.lft_tree.specs.{Tree.PortMember, View.member_views}
use Rattle.lft_lower.specs.inner.{Meanings.Places.{names_of, several}, Standing.AddsAt}
use Rattle.lft_lower.proofs.reactors.push_ports.Given as goal

abbrev pub invariant-loop-number : goal.invariant-loop-number
invariant-loop-number l = (member_views l.list.items ≡ member_views l.fn.list.items ++ take l.number (map (λ name. PortMember (record { name = name; is_input = l.is_input })) (names_of (several l.channels)))) × AddsAt l.fn.list.items l.list.items l.at (λ parts. Unit {0})
