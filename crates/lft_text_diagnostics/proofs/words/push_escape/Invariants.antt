use Rattle.std.proofs.Common.{◌≡◌, ◌++◌, flat_map, string_bytes}
use Rattle.std.specs.Char.{encode_utf8}
use Rattle.lft_text_diagnostics.proofs.words.push_escape.Given as goal

abbrev pub invariant-loop-sign : goal.invariant-loop-sign
invariant-loop-sign l = string_bytes l.out ≡ string_bytes l.fn.out ++ flat_map encode_utf8 l.yielded
