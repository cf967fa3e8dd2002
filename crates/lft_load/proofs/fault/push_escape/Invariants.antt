use Rattle.std.proofs.Common.{◌≡◌, ◌++◌, flat_map, string_bytes}
use Rattle.std.specs.Char.{encode_utf8}
use Rattle.lft_load.proofs.fault.push_escape.Given as goal

abbrev pub invariant-loop-sign : goal.invariant-loop-sign
invariant-loop-sign l = string_bytes l.line ≡ string_bytes l.fn.line ++ flat_map encode_utf8 l.yielded
