use Rattle.std.proofs.Common.{ℕ, ◌<◌, ◌≤◌, length}
use lib.ListN.{get_or}
use Rattle.lft_ir.specs.{Steps.Inputs.ComesBefore, declared.steps.externals.Event.Event}
use Rattle.lft_ir.proofs.steps.order.place_of.Given as goal

abbrev pub invariant-loop-place : goal.invariant-loop-place
invariant-loop-place l = (l.place ≤ length l.events) × ((k : ℕ) (d : Event) → l.place ≤ k → k < length l.events → ComesBefore l.event (get_or l.events k d))

abbrev pub decreases-loop-place : goal.decreases-loop-place
decreases-loop-place l = l.place
