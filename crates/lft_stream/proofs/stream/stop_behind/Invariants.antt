use Rattle.std.specs.Prelude.{[]}
use Rattle.lft_model.proofs.StopTags.{IsStopBefore}
use Rattle.lft_stream.proofs.stream.stop_behind.Given as goal

-- the stop is that of a plan with no event, whose external stop is the one so far
abbrev pub invariant-loop-place : goal.invariant-loop-place
invariant-loop-place l = IsStopBefore (record { program = l.program; externals = record { stop = l.fn.stop; events = [] } }) l.rows l.place l.last
