use Rattle.std.proofs.Common.{◌≡◌, ℕ, ◌<◌, Some, slice_get}
use Rattle.lft_tag.specs.Tags.{Before}
use Rattle.lft_ir.specs.declared.steps.row.Row.{Row}
use Rattle.lft_facts.proofs.across.later_tag.Given as goal

abbrev pub invariant-loop-place : goal.invariant-loop-place
invariant-loop-place l = (m : ℕ) (x : Row) → l.row < m → m < l.place → slice_get l.rows m ≡ Some x → ¬ Before l.tag x.tag
