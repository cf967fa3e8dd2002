use Rattle.std.proofs.Common.{◌≡◌, take}
use Rattle.std.specs.List.{All, flat_map}
use Rattle.lft_tree.specs.View.{ref_views}
use Rattle.lft_lower.specs.inner.{Meanings.{Meanings.{here, token_in}, Standing.ref_tokens}, Standing.tokens_of_effect, Lowered.{MeansEffect, effect_places}}
use Rattle.lft_lower.proofs.reactions.effects.Given as goal

abbrev pub invariant-loop-place : goal.invariant-loop-place
invariant-loop-place l = (ref_views l.list.items ≡ flat_map (effect_places (here l.within)) (take l.place l.reaction.effects.items)) × (ref_tokens l.list.items ≡ flat_map (tokens_of_effect (token_in l.within) (here l.within)) (take l.place l.reaction.effects.items)) × All (MeansEffect (here l.within)) (take l.place l.reaction.effects.items)
