-- A phase is written into seats at rest.
use Rattle.std.proofs.Common.{◌≡◌, ◌≢◌, ℕ, zero, suc, ◌+◌, ◌<◌, ◌≤◌, ◌⊎◌, inl, inr, List, [], length, refl, sym, ◌∙◌, arith, Some, slice_get, slice_set}
use Rattle.std.proofs.lemmas.Bool.{true≢false, false≢true, cases_Bool, cases_lt}
use mathlib.Core.Bool.{Bool, true, false, not}
use Rattle.lft_scheduler.specs.declared.turn.{phase.Phase.{Phase, TheVariants.{Idle, Waiting, Open}}, seats.Seat.Seat}
use Rattle.lft_scheduler.specs.inner.{Phases.pending, Seats.{busy_at, busy, times, load, gain, loss, IsAtRest, IsMoving, IsPushed}}
use Rattle.lft_scheduler.proofs.{WrittenSeats.{rest_moving, room_to_turn, written_moves}, ToldSeats.busy_waits}

busy_pending : (p : Phase) (n : ℕ) → pending p ≡ true → busy_at p n ≡ true
busy_pending Idle n e = absurd (false≢true e)
busy_pending Waiting n e = refl
busy_pending Open n e = refl

busy_idle : (p : Phase) (n : ℕ) → pending p ≡ false → n ≡ 0 → busy_at p n ≡ false
busy_idle Idle zero e z = refl
busy_idle Idle (suc n) e z = absurd (omega arith)
busy_idle Waiting n e z = absurd (true≢false e)
busy_idle Open n e z = absurd (true≢false e)

module _ (s y : Seat) (waits : y.waits ≡ s.waits) where
  change_turns : (up : Bool) → pending y.phase ≡ up → (busy y ≡ busy s) ⊎ ((busy s ≡ not up) × (busy y ≡ up))
  change_turns true p = at (cases_Bool (busy s))
    where
      now : busy y ≡ true
      now = busy_pending y.phase y.waits p

      at : (busy s ≡ true) ⊎ (busy s ≡ false) → (busy y ≡ busy s) ⊎ ((busy s ≡ not true) × (busy y ≡ true))
      at (inl b) = inl (now ∙ sym b)
      at (inr b) = inr (b, now)
  change_turns false p = at (cases_lt 0 y.waits)
    where
      idle : y.waits ≤ 0 → (busy s ≡ true) ⊎ (busy s ≡ false) → (busy y ≡ busy s) ⊎ ((busy s ≡ not false) × (busy y ≡ false))
      idle l (inl b) = inr (b, busy_idle y.phase y.waits p (omega arith))
      idle l (inr b) = inl (busy_idle y.phase y.waits p (omega arith) ∙ sym b)

      at : (0 < y.waits) ⊎ (y.waits ≤ 0) → (busy y ≡ busy s) ⊎ ((busy s ≡ not false) × (busy y ≡ false))
      at (inl l) = inl (busy_waits y.phase y.waits l ∙ sym (busy_waits s.phase s.waits (omega arith)))
      at (inr l) = idle l (cases_Bool (busy s))

module _ (up : Bool) (after : List (List ℕ)) (seats : List Seat) (stack : List ℕ) (r : ℕ) (s y : Seat) (w : IsAtRest after seats) (room : length stack ≡ length after) (e : slice_get seats r ≡ Some s) (counted : y.counted ≡ s.counted) (waits : y.waits ≡ s.waits) (p : pending y.phase ≡ up) where
  start : IsMoving up after seats stack 0 []
  start = rest_moving up after seats stack w room

  own : y.waits + gain up (times r []) ≡ load seats after r + loss up (times r [])
  own = let a = start.waits r s e in omega arith

  pub change_room : busy y ≢ busy s → 0 < length stack
  change_room = room_to_turn up after seats stack 0 r s y [] [] start e counted own (λ q n. refl) (change_turns s y waits up p)

  pub change_moves : (stack_after : List ℕ) (top_after : ℕ) → IsPushed (busy s) (busy y) stack 0 r stack_after top_after → IsMoving up after (slice_set seats r y) stack_after top_after []
  change_moves stack_after top_after = written_moves up after seats stack 0 r s y [] [] start e counted own (λ q n. refl) stack_after top_after (change_turns s y waits up p)
