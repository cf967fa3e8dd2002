use Rattle.std.proofs.Common.{List, take, refl, subst, arith}
use Rattle.lft_ir.specs.declared.steps.row.Row.{Row}
use Rattle.lft_stream.{specs.inner.Kept.IsAcceptorOf, proofs.Parting.up_to_second}
use Rattle.lft_stream.proofs.batches.rows.add_parts.Goals as goal

pub add-requires-clause-stands : goal.add-requires-clause-stands
add-requires-clause-stands c = (take c.loop-first.first c.args.rows.now, c.loop-first.invariant.stands)

pub loop-first-preserved : goal.loop-first-preserved
loop-first-preserved c =
    let rows = c.args.rows.now in
    let first = c.loop-first.first in
    let end = c.end_of_part-end.result in
    let on = c.end_of_part-end.ensures in
    record {
      within = on.1;
      stands = subst (λ (t : List Row). IsAcceptorOf c.args.plan.now t c.add.new.self) (up_to_second rows first end (let before = on.0 in omega (arith, before))) (c.if-not-add.ensures refl (take first rows) c.loop-first.invariant.stands);
    }
