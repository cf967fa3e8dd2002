use Rattle.std.proofs.Common.{◌≡◌, List, drop}
use Rattle.lft_ir.specs.declared.steps.row.Row.{Row}
use Rattle.lft_trace.specs.{inner.LogTables.inputs_behind, declared.log_table.Line.Line}
use Rattle.lft_monitor.specs.inner.Follows.{IsFollowerOf, next_of}
use Rattle.lft_log.{specs.Logs.rows, proofs.Inputs.IsGone}
use Rattle.lft_log.proofs.telling.tell_all.Given as goal

abbrev pub invariant-loop-place : goal.invariant-loop-place
invariant-loop-place l = record {
  program : l.plan.program ≡ l.fn.plan.program;
  stands : (t : List Row) → IsFollowerOf l.fn.plan t l.fn.follower → IsFollowerOf l.plan t l.follower;
  next : next_of l.follower ≡ next_of l.fn.follower;
  gone : (t : List Row) (lines : List Line) → IsFollowerOf l.fn.plan t l.fn.follower → next_of l.fn.follower ≡ rows lines → l.front.inputs.items ≡ inputs_behind 0 lines → IsGone l.fn.plan l.plan t lines (drop l.place l.front.inputs.items) l.place l.gone l.latest;
}
