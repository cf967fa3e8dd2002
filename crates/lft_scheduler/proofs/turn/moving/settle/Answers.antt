use Rattle.std.proofs.Common.{◌≡◌, ℕ, ◌+◌, ◌-◌, ◌<◌, List, [], length, refl, ◌∙◌, subst, arith, Some, slice_get}
use Rattle.std.proofs.lemmas.Option.{slice_get_within}
use mathlib.Core.Bool.{Bool}
use Rattle.lft_scheduler.specs.{declared.turn.seats.Seat.Seat, inner.Seats.IsMoving}
use Rattle.lft_scheduler.proofs.{Frees.frees_kept, Adding.tally_small, WrittenSeats.{popped, popped_fewer}, ToldSeats.phases_kept}
use Rattle.lft_lists.proofs.Places.{get_there}
use Rattle.lft_scheduler.proofs.turn.moving.settle.Goals as goal

-- the stack holds reactions
stacked_there : (up : Bool) (after : List (List ℕ)) (seats : List Seat) (stack : List ℕ) (top a : ℕ) → IsMoving up after seats stack top [] → 0 < top → slice_get stack (top - 1) ≡ Some a → a < length after
stacked_there up after seats stack top a w l e = let o = w.stacked (top - 1) a (omega arith) e in let i = slice_get_within seats a o.0 o.1 in let s = w.as_long in omega arith

-- the stack is no higher than there are reactions
stack_within : (up : Bool) (after : List (List ℕ)) (seats : List Seat) (stack : List ℕ) (top : ℕ) → IsMoving up after seats stack top [] → 0 < top → top - 1 < length stack
stack_within up after seats stack top w l = let t = w.total in let s = tally_small up seats in let a = w.as_long in let b = w.room in omega arith

pub item_at-reaction-requires : goal.item_at-reaction-requires
item_at-reaction-requires c = stack_within c.args.up c.args.after.now c.walk.seats c.walk.stack c.walk.left c.walk.invariant.0 c.walk-test.true

pub seat_at-seat-requires : goal.seat_at-seat-requires
seat_at-seat-requires c = let a = stacked_there c.args.up c.args.after.now c.walk.seats c.walk.stack c.walk.left c.item_at-reaction.result c.walk.invariant.0 c.walk-test.true c.item_at-reaction.ensures in let s = c.walk.invariant.0.as_long in omega arith

pub bounds-seats-reaction : goal.bounds-seats-reaction
bounds-seats-reaction c = let a = stacked_there c.args.up c.args.after.now c.walk.seats c.walk.stack c.walk.left c.item_at-reaction.result c.walk.invariant.0 c.walk-test.true c.item_at-reaction.ensures in let s = c.walk.invariant.0.as_long in omega arith

pub tell-left-requires-clause-known : goal.tell-left-requires-clause-known
tell-left-requires-clause-known c = stacked_there c.args.up c.args.after.now c.walk.seats c.walk.stack c.walk.left c.item_at-reaction.result c.walk.invariant.0 c.walk-test.true c.item_at-reaction.ensures

pub tell-left-requires-clause-moving : goal.tell-left-requires-clause-moving
tell-left-requires-clause-moving c list el =
    let l : 0 < c.walk.left = c.walk-test.true in
    let q : c.walk.left ≡ (c.walk.left - 1) + 1 = omega arith in
    let w = subst (λ t. IsMoving c.args.up c.args.after.now c.walk.seats c.walk.stack t []) q c.walk.invariant.0 in
    popped c.args.up c.args.after.now c.walk.seats c.walk.stack (c.walk.left - 1) c.item_at-reaction.result c.seat_at-seat.result (record { phase = c.seat_at-seat.result.phase; waits = c.seat_at-seat.result.waits; counted = c.args.up }) list w c.item_at-reaction.ensures c.seat_at-seat.ensures el refl refl refl

pub tell-left-requires-clause-frees : goal.tell-left-requires-clause-frees
tell-left-requires-clause-frees c = frees_kept c.walk.seats c.walk.frees c.item_at-reaction.result c.seat_at-seat.result (record { phase = c.seat_at-seat.result.phase; waits = c.seat_at-seat.result.waits; counted = c.args.up }) c.walk.invariant.1 c.seat_at-seat.ensures refl refl

pub walk-smaller : goal.walk-smaller
walk-smaller c =
    let l : 0 < c.walk.left = c.walk-test.true in
    let q : c.walk.left ≡ (c.walk.left - 1) + 1 = omega arith in
    let w = subst (λ t. IsMoving c.args.up c.args.after.now c.walk.seats c.walk.stack t []) q c.walk.invariant.0 in
    let a = stacked_there c.args.up c.args.after.now c.walk.seats c.walk.stack c.walk.left c.item_at-reaction.result c.walk.invariant.0 c.walk-test.true c.item_at-reaction.ensures in
    let g = get_there c.args.after.now c.item_at-reaction.result a in
    let f = popped_fewer c.args.up c.args.after.now c.walk.seats c.walk.stack (c.walk.left - 1) c.item_at-reaction.result c.seat_at-seat.result (record { phase = c.seat_at-seat.result.phase; waits = c.seat_at-seat.result.waits; counted = c.args.up }) g.0 w c.item_at-reaction.ensures c.seat_at-seat.ensures g.1 refl refl refl in
    let m = c.tell-left.ensures.as_many in
    omega arith

pub walk-preserved : goal.walk-preserved
walk-preserved c = (c.tell-left.ensures.moving, c.tell-left.ensures.frees, c.tell-left.ensures.phases ∙ phases_kept c.walk.seats c.item_at-reaction.result c.seat_at-seat.result (record { phase = c.seat_at-seat.result.phase; waits = c.seat_at-seat.result.waits; counted = c.args.up }) c.seat_at-seat.ensures refl ∙ c.walk.invariant.2)
