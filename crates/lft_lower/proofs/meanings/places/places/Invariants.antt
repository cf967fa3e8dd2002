use Rattle.std.proofs.Common.{◌≡◌, take}
use Rattle.std.specs.List.{All}
use Rattle.lft_tree.specs.View.{ref_views}
use Rattle.lft_lower.specs.inner.Meanings.{Meanings.{Means, all_places, here, token_in}, Standing.{all_tokens, ref_tokens}}
use Rattle.lft_lower.proofs.meanings.places.places.Given as goal

abbrev pub invariant-loop-place : goal.invariant-loop-place
invariant-loop-place l = (ref_views l.list.items ≡ all_places (here l.within) (take l.place l.references)) × (ref_tokens l.list.items ≡ all_tokens (token_in l.within) (here l.within) (take l.place l.references)) × All (Means (here l.within)) (take l.place l.references)
