use Rattle.std.proofs.Common.{◌≡◌, List, [], refl, sym, ap, ◌∙◌, subst}
use Rattle.std.proofs.lemmas.List.{map-set}
use Rattle.lft_lists.proofs.Places.{same_at}
use Rattle.lft_scheduler.{specs.{declared.turn.seats.Seat.Seat, inner.Seats.{busy, IsMoving, phases_of}}, proofs.Changing.{change_room, change_moves}}
use Rattle.lft_scheduler.proofs.turn.moving.change.Goals as goal

pub write-top-requires-clause-room : goal.write-top-requires-clause-room
write-top-requires-clause-room c s e n =
    let q : s ≡ c.seat_at-seat.result = same_at c.args.seats.now c.args.reaction c.args.reaction s c.seat_at-seat.result e c.seat_at-seat.ensures refl in
    change_room c.is_pending-up.result c.args.after.now c.args.seats.now c.args.stack.now c.args.reaction c.seat_at-seat.result (record { phase = c.args.phase; waits = c.seat_at-seat.result.waits; counted = c.seat_at-seat.result.counted }) c.requires.rest c.requires.room c.seat_at-seat.ensures refl refl (sym c.is_pending-up.ensures) (λ z. n (z ∙ ap busy (sym q)))

pub settle-requires-clause-moving : goal.settle-requires-clause-moving
settle-requires-clause-moving c =
    let y : Seat = record { phase = c.args.phase; waits = c.seat_at-seat.result.waits; counted = c.seat_at-seat.result.counted } in
    let m = change_moves c.is_pending-up.result c.args.after.now c.args.seats.now c.args.stack.now c.args.reaction c.seat_at-seat.result y c.requires.rest c.requires.room c.seat_at-seat.ensures refl refl (sym c.is_pending-up.ensures) c.write-top.new.stack c.write-top.result (c.write-top.ensures.pushed c.seat_at-seat.result c.seat_at-seat.ensures) in
    subst (λ (l : List Seat). IsMoving c.is_pending-up.result c.args.after.now l c.write-top.new.stack c.write-top.result []) (sym c.write-top.ensures.seats) m

pub returns-clause-phases : goal.returns-clause-phases
returns-clause-phases c =
    let y : Seat = record { phase = c.args.phase; waits = c.seat_at-seat.result.waits; counted = c.seat_at-seat.result.counted } in
    c.settle.ensures.phases ∙ ap phases_of c.write-top.ensures.seats ∙ map-set (λ (s : Seat). s.phase) c.args.seats.now c.args.reaction y
