use Rattle.std.proofs.Common.{◌≡◌, ◌++◌, ◌≤◌, take, string_bytes}
use Rattle.lft_load.specs.Words.{names_words}
use Rattle.lft_load.proofs.words.push_names.Given as goal

abbrev pub invariant-loop-at : goal.invariant-loop-at
invariant-loop-at l = (1 ≤ l.at) × (string_bytes l.line ≡ string_bytes l.fn.line ++ names_words l.program (take l.at l.reactions))
