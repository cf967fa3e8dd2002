use Rattle.std.proofs.Common.{◌≡◌, ◌++◌, take, string_bytes, flat_map}
use Rattle.lft_pair.specs.Told.{contrast_words, heading_words}
use Rattle.lft_pair.proofs.contrasting.telling.tell.Given as goal

abbrev pub invariant-loop-place : goal.invariant-loop-place
invariant-loop-place l = string_bytes l.text ≡ heading_words l.program l.fn.tag l.reaction l.widths.effect l.widths.first ++ flat_map (contrast_words l.program l.widths.effect l.widths.first) (take l.place l.contrasts)
