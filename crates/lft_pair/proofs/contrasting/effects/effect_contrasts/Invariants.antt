use Rattle.lft_pair.proofs.Differing.{ToldTo}
use Rattle.lft_pair.proofs.contrasting.effects.effect_contrasts.Given as goal

abbrev pub invariant-loop-place : goal.invariant-loop-place
invariant-loop-place l = ToldTo l.effects l.mine l.theirs l.place l.told.items
