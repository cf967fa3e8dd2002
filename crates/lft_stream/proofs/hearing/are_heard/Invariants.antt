use Rattle.std.proofs.Common.{◌≡◌, ℕ, ◌<◌, List, [], Some, slice_get}
use Rattle.lft_ir.specs.Origins.{Origin}
use Rattle.lft_ir.specs.declared.{parts.{Value.Value, Name.TheVariants.Port, Trigger.TheVariants.On}, steps.row.{Row.Row, Step.TheVariants.Write}}
use Rattle.lft_model.specs.Runs.{Ran}
use Rattle.lft_queue.specs.inner.Coming.Listens.{Listens}
use Rattle.lft_stream.specs.inner.StartTags.{AreStartTags}
use Rattle.lft_stream.proofs.hearing.are_heard.Given as goal

abbrev pub invariant-loop-place : goal.invariant-loop-place
invariant-loop-place l = (whole : List Row) → AreStartTags l.plan.program whole l.starts → (i p o r : ℕ) (x : Row) (v : Value) → i < l.place → slice_get l.own i ≡ Some x → x.step ≡ Write (Port o) v → Origin l.plan.program p o [] → Listens l.plan r (On (Port p)) → Ran whole l.tag r
