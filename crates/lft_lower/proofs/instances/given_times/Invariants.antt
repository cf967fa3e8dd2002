use Rattle.std.proofs.Common.{◌≡◌, filter_map, map, take}
use Rattle.std.specs.List.{All, flat_map}
use Rattle.lft_lower.specs.inner.{Meanings.Meanings.token_in, Standing.{given_token, given_tokens}, Lowered.{IsGiven, time_given}}
use Rattle.lft_tree.specs.View.{assignment_view}
use Rattle.lft_lower.proofs.instances.given_times.Given as goal

abbrev pub invariant-loop-place : goal.invariant-loop-place
invariant-loop-place l = (map assignment_view l.list.items ≡ filter_map (time_given l.inner) (take l.place l.child.given.items)) × (flat_map given_tokens l.list.items ≡ flat_map (given_token (token_in l.within) l.inner) (take l.place l.child.given.items)) × All (IsGiven l.within.shape.now l.inner) (take l.place l.child.given.items)
