use Rattle.std.proofs.Common.{◌≡◌, map, take}
use Rattle.lft_tree.specs.View.{assignment_view}
use Rattle.std.specs.List.{flat_map}
use Rattle.lft_lower.specs.inner.Standing.{given_tokens}
use Rattle.lft_lower.proofs.copies.copied_given.Given as goal

abbrev pub invariant-loop-place : goal.invariant-loop-place
invariant-loop-place l = (map assignment_view l.list.items ≡ map assignment_view (take l.place l.given)) × (flat_map given_tokens l.list.items ≡ flat_map given_tokens (take l.place l.given))
