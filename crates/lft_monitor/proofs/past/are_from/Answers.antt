use Rattle.std.proofs.Common.{◌<◌, length, arith}
use Rattle.std.proofs.lemmas.Bool.{false≢true}
use Rattle.lft_model.proofs.Places.{slice_get_within}
use Rattle.lft_monitor.proofs.Behind.{from_more}
use Rattle.lft_monitor.proofs.past.are_from.Goals as goal

pub loop-place-preserved : goal.loop-place-preserved
loop-place-preserved c = from_more c.args.rows.now c.args.low c.loop-place.place c.row_at.result c.row_at.ensures (λ b. false≢true (c.if-is_before.ensures.1 b)) c.loop-place.invariant

pub returns : goal.returns
returns c = λ yes i x e. let l : i < length c.args.rows.now = slice_get_within c.args.rows.now i x e in c.loop-place.invariant i x (omega arith) e
