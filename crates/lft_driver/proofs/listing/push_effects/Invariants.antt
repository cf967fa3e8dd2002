use Rattle.std.proofs.Common.{◌≡◌, ◌++◌, take, flat_map, string_bytes}
use Rattle.lft_driver.specs.Shown.{effect_line}
use Rattle.lft_driver.proofs.listing.push_effects.Given as goal

abbrev pub invariant-loop-place : goal.invariant-loop-place
invariant-loop-place l = string_bytes l.text ≡ string_bytes l.fn.text ++ flat_map (effect_line l.program l.reaction) (take l.place l.effects)
