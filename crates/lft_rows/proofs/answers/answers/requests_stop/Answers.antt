use Rattle.std.proofs.Common.{sym, refl, arith}
use Rattle.lft_rows.proofs.AnswersLemmas.Stepping.{stop_found, no_stop}
use Rattle.lft_rows.proofs.answers.answers.requests_stop.Goals as goal

pub returns-then-is_stop : goal.returns-then-is_stop
returns-then-is_stop c = sym (stop_found c.args.steps.now c.loop-place.place c.item_at.result c.item_at.ensures (c.if-is_stop.ensures.0 refl))

pub returns : goal.returns
returns c = sym (no_stop c.args.steps.now c.loop-place.place (omega arith) c.loop-place.invariant)
