use Rattle.std.proofs.Common.{◌≡◌, ℕ, ◌≤◌, ◌<◌, true}
use Rattle.std.specs.Prelude.{slice_index}
use Rattle.lft_lists.specs.Bytes.{is_in_line}
use Rattle.lft_text_diagnostics.proofs.place.line_end.Given as goal

abbrev pub invariant-loop-end : goal.invariant-loop-end
invariant-loop-end l = (k : ℕ) → l.at ≤ k → k < l.end → is_in_line (slice_index l.text k) ≡ true
