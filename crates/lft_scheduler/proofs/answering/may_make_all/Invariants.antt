use Rattle.std.proofs.Common.{◌≡◌, ℕ, ◌<◌, Some, slice_get}
use Rattle.lft_ir.specs.declared.steps.row.Step.{Step}
use Rattle.lft_model.specs.Recorded.{MayAnswer}
use Rattle.lft_scheduler.proofs.answering.may_make_all.Given as goal

abbrev pub invariant-loop-at : goal.invariant-loop-at
invariant-loop-at l = (k : ℕ) (s : Step) → k < l.at → slice_get l.steps k ≡ Some s → MayAnswer l.plan l.reaction s
