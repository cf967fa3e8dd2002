use Rattle.lft_model.proofs.StopTags.{IsStopBefore}
use Rattle.lft_model.proofs.stop.trace_stop.Given as goal

abbrev pub invariant-loop-place : goal.invariant-loop-place
invariant-loop-place l = IsStopBefore l.plan l.rows l.place l.stop
