use Rattle.std.proofs.Common.{◌≡◌, ◌++◌, flat_map, string_bytes}
use Rattle.std.specs.Char.{encode_utf8}
use Rattle.lft_text_diagnostics.specs.Quotes.{letter_shown}
use Rattle.lft_text_diagnostics.proofs.words.push_bytes.Given as goal

abbrev pub invariant-loop-letter : goal.invariant-loop-letter
invariant-loop-letter l = string_bytes l.out ≡ string_bytes l.fn.out ++ flat_map (λ c. flat_map encode_utf8 (letter_shown c)) l.yielded
