use Rattle.std.proofs.Common.{◌≡◌, map, string_bytes}
use Rattle.lft_whole.specs.Sources.Shown.{shown}
use Rattle.lft_whole.proofs.sources.shown.shown_path.Given as goal

abbrev pub invariant-loop-letter : goal.invariant-loop-letter
invariant-loop-letter l = string_bytes l.text ≡ map shown l.yielded
