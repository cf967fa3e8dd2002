use Rattle.lft_rows.proofs.AnswersLemmas.Stepping.{NoStopTo}
use Rattle.lft_rows.proofs.answers.answers.requests_stop.Given as goal

abbrev pub invariant-loop-place : goal.invariant-loop-place
invariant-loop-place l = NoStopTo l.steps l.place
