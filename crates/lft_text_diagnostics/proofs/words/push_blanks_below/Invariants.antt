use Rattle.std.proofs.Common.{◌≡◌, ◌++◌, take, flat_map, string_bytes}
use Rattle.lft_text_diagnostics.specs.Quotes.{blank_below}
use Rattle.lft_text_diagnostics.proofs.words.push_blanks_below.Given as goal

abbrev pub invariant-loop-place : goal.invariant-loop-place
invariant-loop-place l = string_bytes l.out ≡ string_bytes l.fn.out ++ flat_map blank_below (take l.place l.bytes)
