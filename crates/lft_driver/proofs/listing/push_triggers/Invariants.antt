use Rattle.std.proofs.Common.{◌≡◌, ◌++◌, take, flat_map, string_bytes}
use Rattle.lft_driver.specs.Shown.{trigger_line}
use Rattle.lft_driver.proofs.listing.push_triggers.Given as goal

abbrev pub invariant-loop-place : goal.invariant-loop-place
invariant-loop-place l = string_bytes l.text ≡ string_bytes l.fn.text ++ flat_map (trigger_line l.program l.reaction) (take l.place l.triggers)
