use Rattle.std.proofs.Common.{◌≡◌, ℕ, ◌≤◌, ◌<◌, true}
use Rattle.std.specs.Prelude.{slice_index}
use Rattle.lft_lists.specs.Bytes.{is_in_line}
use Rattle.lft_text_diagnostics.proofs.place.line_start.Given as goal

abbrev pub invariant-loop-before : goal.invariant-loop-before
invariant-loop-before l = (k : ℕ) → l.before ≤ k → k < l.at → is_in_line (slice_index l.text k) ≡ true
