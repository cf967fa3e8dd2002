use Rattle.std.proofs.Common.{arith}
use Rattle.std.proofs.lemmas.Option.{slice_get_within}
use Rattle.lft_report.proofs.QuotesLemmas.Placed.{passed_more}
use Rattle.lft_report.proofs.quotes.picking.place_for.Goals as goal

pub loop-place-preserved : goal.loop-place-preserved
loop-place-preserved c = passed_more c.args.quotes.now c.args.quote c.item_at.result c.loop-place.place c.item_at.ensures (omega arith) c.loop-place.invariant

pub returns-clause-stops : goal.returns-clause-stops
returns-clause-stops c x e = absurd (omega (arith, slice_get_within c.args.quotes.now _ x e))
