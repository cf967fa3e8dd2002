use Rattle.std.proofs.Common.{◌∙◌, refl, arith}
use Rattle.lft_tag.proofs.Order.{UpTo-refl}
use Rattle.lft_queue.{specs.inner.Reading.is_read, proofs.ComingLemmas.{Carrying.all_carried, Clearing.{clear_first, clear_more, clear_earlier}}}
use Rattle.lft_queue.proofs.coming.channels.carry_all.Goals as goal

pub loop-place-init : goal.loop-place-init
loop-place-init c = record { next = refl; carried = clear_first c.args.program.now c.args.rows.now c.args.tag c.args.last c.args.coming.now c.args.writes.now c.requires.writes }

pub loop-place-preserved : goal.loop-place-preserved
loop-place-preserved c =
    let rows = c.args.rows.now in
    let i = c.loop-place.place in
    let row = c.row_at.result in
    let start = c.args.coming.now in
    let made = c.if-not-carry_row.ensures in
    record {
      next = made.next ∙ c.loop-place.invariant.next;
      carried = clear_more c.args.program.now rows c.args.tag c.args.last i row start c.loop-place.coming c.carry_row.new.coming c.loop-place.writes c.carry_row.new.writes c.row_at.ensures (c.requires.at i row c.row_at.ensures) made.no_later made.fewer (λ h up clear are. made.carried refl rows i start h up clear c.row_at.ensures are) c.loop-place.invariant.carried;
    }

pub returns-clause-earlier : goal.returns-clause-earlier
returns-clause-earlier c = λ z. clear_earlier c.args.program.now c.args.rows.now c.args.tag c.args.last c.loop-place.place c.args.coming.now c.loop-place.coming c.loop-place.writes c.loop-place.invariant.carried

pub returns-clause-carried : goal.returns-clause-carried
returns-clause-carried c = λ z events h n waited before up clear. all_carried c.args.program.now (is_read c.args.program.now) c.args.rows.now c.args.tag c.loop-place.place (omega (arith, c.loop-place-test.false)) c.args.coming.now c.loop-place.coming c.loop-place.writes h (c.loop-place.invariant.carried.carried h up clear) events h n waited before (UpTo-refl h)
