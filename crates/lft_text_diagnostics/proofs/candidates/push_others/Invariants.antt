use Rattle.std.proofs.Common.{◌≡◌, ◌++◌, take, flat_map, string_bytes}
use Rattle.lft_text_diagnostics.specs.Candidates.{other_candidate_words}
use Rattle.lft_text_diagnostics.proofs.candidates.push_others.Given as goal

abbrev pub invariant-loop-at : goal.invariant-loop-at
invariant-loop-at l = string_bytes l.out ≡ string_bytes l.fn.out ++ flat_map other_candidate_words (take l.at l.others)
