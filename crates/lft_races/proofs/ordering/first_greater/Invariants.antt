use Rattle.std.proofs.Common.{◌≡◌, ℕ, ◌<◌, Some, slice_get}
use Rattle.lft_tag.specs.Tags.{Before}
use Rattle.lft_ir.specs.declared.steps.row.Row.{Row}
use Rattle.lft_races.proofs.ordering.first_greater.Given as goal

abbrev pub invariant-loop-other : goal.invariant-loop-other
invariant-loop-other l = (m : ℕ) (x : Row) → m < l.other → slice_get l.rows m ≡ Some x → ¬ Before l.tag x.tag
