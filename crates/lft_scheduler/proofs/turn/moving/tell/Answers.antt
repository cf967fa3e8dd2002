use Rattle.std.proofs.Common.{◌≡◌, ◌+◌, List, refl, sym, ap, ◌∙◌, subst, arith, drop, map}
use Rattle.lft_lists.proofs.Places.{same_at}
use Rattle.lft_scheduler.specs.{declared.turn.seats.Seat.Seat, inner.Seats.{busy, uncounted, IsMoving}}
use Rattle.lft_scheduler.proofs.ToldSeats.{IsTold, told_fits, told_some, told_room, told_moves, told_as_many, phases_kept}
use Rattle.lft_scheduler.proofs.turn.moving.tell.Goals as goal

pub told-seat-requires-clause-fits : goal.told-seat-requires-clause-fits
told-seat-requires-clause-fits c u =
    let b = told_fits c.args.after.now c.members.seats c.members.stack c.members.left c.members.place c.item_at-member.result c.seat_at.result c.of-list.result.now c.item_at-member.ensures c.seat_at.ensures c.args.up c.members.invariant.0 c.requires.once u in
    let l = c.members.invariant.0.as_long in
    let m = c.requires.few in
    omega arith

pub told-seat-requires-clause-some : goal.told-seat-requires-clause-some
told-seat-requires-clause-some c u = told_some c.args.after.now c.members.seats c.members.stack c.members.left c.members.place c.item_at-member.result c.seat_at.result c.of-list.result.now c.item_at-member.ensures c.seat_at.ensures c.args.up c.members.invariant.0 u

pub write-left-requires-clause-room : goal.write-left-requires-clause-room
write-left-requires-clause-room c s e n =
    let q : s ≡ c.seat_at.result = same_at c.members.seats c.item_at-member.result c.item_at-member.result s c.seat_at.result e c.seat_at.ensures refl in
    let t : IsTold c.args.up c.seat_at.result c.told-seat.result = record { phase = c.told-seat.ensures.phase; counted = c.told-seat.ensures.counted; more = c.told-seat.ensures.more; less = c.told-seat.ensures.less } in
    told_room c.args.up c.args.after.now c.members.seats c.members.stack c.members.left c.members.place c.item_at-member.result c.seat_at.result c.told-seat.result c.of-list.result.now c.item_at-member.ensures c.seat_at.ensures c.members.invariant.0 t (λ z. n (z ∙ ap busy (sym q)))

pub members-preserved : goal.members-preserved
members-preserved c =
    let t : IsTold c.args.up c.seat_at.result c.told-seat.result = record { phase = c.told-seat.ensures.phase; counted = c.told-seat.ensures.counted; more = c.told-seat.ensures.more; less = c.told-seat.ensures.less } in
    let m = told_moves c.args.up c.args.after.now c.members.seats c.members.stack c.members.left c.members.place c.item_at-member.result c.seat_at.result c.told-seat.result c.of-list.result.now c.item_at-member.ensures c.seat_at.ensures c.members.invariant.0 t c.write-left.new.stack c.write-left.result (c.write-left.ensures.pushed c.seat_at.result c.seat_at.ensures) in
    let n = told_as_many c.args.up c.args.after.now c.members.seats c.members.stack c.members.left c.members.place c.item_at-member.result c.seat_at.result c.told-seat.result c.of-list.result.now c.item_at-member.ensures c.seat_at.ensures c.members.invariant.0 t in
    let p = phases_kept c.members.seats c.item_at-member.result c.seat_at.result c.told-seat.result c.seat_at.ensures c.told-seat.ensures.phase in
    (subst (λ (l : List Seat). IsMoving c.args.up c.args.after.now l c.write-left.new.stack c.write-left.result (drop (c.members.place + 1) c.of-list.result.now)) (sym c.write-left.ensures.seats) m, c.write-left.ensures.frees, ap (uncounted c.args.up) c.write-left.ensures.seats ∙ n ∙ c.members.invariant.2, ap (map (λ (x : Seat). x.phase)) c.write-left.ensures.seats ∙ p ∙ c.members.invariant.3)
