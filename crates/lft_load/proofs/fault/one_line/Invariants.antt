use Rattle.std.proofs.Common.{◌≡◌, flat_map, string_bytes}
use Rattle.std.specs.Char.{encode_utf8}
use Rattle.lft_load.specs.Words.{in_line}
use Rattle.lft_load.proofs.fault.one_line.Given as goal

abbrev pub invariant-loop-letter : goal.invariant-loop-letter
invariant-loop-letter l = string_bytes l.line ≡ flat_map (λ c. flat_map encode_utf8 (in_line c)) l.yielded
