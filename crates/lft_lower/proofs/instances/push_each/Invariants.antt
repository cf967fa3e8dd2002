use Rattle.std.proofs.Common.{◌≡◌, ◌∷◌, ◌++◌, map, take}
use Rattle.std.specs.List.{All, flat_map}
use Rattle.lft_tree.specs.{Tree.InstanceMember, View.{assignment_view, member_views}}
use Rattle.lft_lower.specs.inner.{Meanings.Places.{names_of, several}, Standing.{AddsAt, given_tokens}}
use Rattle.lft_lower.proofs.instances.push_each.Given as goal

abbrev pub invariant-loop-number : goal.invariant-loop-number
invariant-loop-number l = (member_views l.list.items ≡ member_views l.fn.list.items ++ take l.number (map (λ name. InstanceMember (record { name = name; reactor = l.reactor; given = map assignment_view l.given })) (names_of (several l.members)))) × AddsAt l.fn.list.items l.list.items l.at (All (λ tokens. tokens ≡ l.reactor_at ∷ flat_map given_tokens l.given))
