use Rattle.std.proofs.Common.{◌≡◌, ◌++◌, take, codes, string_bytes, flat_map}
use Rattle.lft_log.specs.Explain.Listed.{open_run_words}
use Rattle.lft_log.proofs.explain.listed.lines_of_runs.Given as goal

abbrev pub invariant-loop-place : goal.invariant-loop-place
invariant-loop-place l = string_bytes l.text ≡ codes "\n" ++ flat_map (open_run_words l.program) (take l.place l.runs)
