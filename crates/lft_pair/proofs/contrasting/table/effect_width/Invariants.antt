use Rattle.std.proofs.Common.{◌≡◌, take}
use Rattle.lft_pair.specs.{Words.effect_words, Told.widest}
use Rattle.lft_pair.proofs.contrasting.table.effect_width.Given as goal

abbrev pub invariant-loop-place : goal.invariant-loop-place
invariant-loop-place l = l.width ≡ widest (effect_words l.program) 6 (take l.place l.contrasts)
