use Rattle.std.proofs.Common.{◌≡◌, map, take}
use Rattle.std.specs.List.{All, flat_map}
use Rattle.lft_tree.specs.View.{trigger_view}
use Rattle.lft_lower.specs.inner.{Meanings.Meanings.{here, token_in}, Standing.{tokens_of_trigger, token_of_trigger}, Lowered.{MeansTrigger, trigger_places}}
use Rattle.lft_lower.proofs.reactions.triggers.Given as goal

abbrev pub invariant-loop-place : goal.invariant-loop-place
invariant-loop-place l = (map trigger_view l.list.items ≡ flat_map (trigger_places (here l.within)) (take l.place l.reaction.triggers.items)) × (flat_map token_of_trigger l.list.items ≡ flat_map (tokens_of_trigger (token_in l.within) (here l.within)) (take l.place l.reaction.triggers.items)) × All (MeansTrigger (here l.within)) (take l.place l.reaction.triggers.items)
