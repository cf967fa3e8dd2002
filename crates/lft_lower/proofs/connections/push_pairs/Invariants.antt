use Rattle.std.proofs.Common.{◌≡◌, ◌≤◌, ◌++◌, true, List, length, map, option_map}
use Rattle.lft_tree.specs.{Tree.{ConnectionTree, ConnectionMember}, View.{member_views, ref_views, time_view}}
use Rattle.lft_elaborate.specs.{Channels.Channels.below, inner.Channels.Channels.joined}
use Rattle.lft_lower.{specs.inner.{Meanings.Standing.ref_tokens, Standing.{AddsAt, pair_tokens, time_tokens}}, proofs.Joining.ArePairs}
use Rattle.lft_lower.proofs.connections.push_pairs.Given as goal

abbrev pub invariant-loop-pair : goal.invariant-loop-pair
invariant-loop-pair l = (cs : List ConnectionTree) × ArePairs (ref_views l.sources) (ref_views l.destinations) true (option_map time_view l.delay) l.pair cs × (l.pair ≤ joined (length l.sources) (length l.destinations) true) × (member_views l.list.items ≡ member_views l.fn.list.items ++ map ConnectionMember cs) × AddsAt l.fn.list.items l.list.items l.arrow (λ parts. parts ≡ map (pair_tokens (ref_tokens l.sources) (ref_tokens l.destinations) true (time_tokens l.delay)) (below l.pair))
