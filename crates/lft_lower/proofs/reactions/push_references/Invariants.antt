use Rattle.std.proofs.Common.{◌≡◌, ◌++◌, map}
use Rattle.lft_tree.specs.{Tree.OnRef, View.{ref_views, trigger_view}}
use Rattle.std.specs.List.{flat_map}
use Rattle.lft_lower.specs.inner.{Meanings.Standing.ref_tokens, Standing.token_of_trigger}
use Rattle.lft_lower.proofs.reactions.push_references.Given as goal

abbrev pub invariant-loop-reference : goal.invariant-loop-reference
invariant-loop-reference l = (map trigger_view l.list.items ≡ map trigger_view l.fn.list.items ++ map OnRef (ref_views l.yielded)) × (flat_map token_of_trigger l.list.items ≡ flat_map token_of_trigger l.fn.list.items ++ ref_tokens l.yielded)
