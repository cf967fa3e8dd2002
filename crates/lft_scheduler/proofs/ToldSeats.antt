-- A member of the list is told of one more to wait for, or one less.
use Rattle.std.proofs.Common.{◌≡◌, ◌≢◌, ℕ, zero, suc, ◌+◌, ◌<◌, ◌⊎◌, inl, inr, List, [], ◌∷◌, length, refl, sym, ap, ◌∙◌, arith, Some, slice_get, slice_set, drop, map}
use Rattle.std.proofs.lemmas.Bool.{true≢false, false≢true, cases_Bool}
use mathlib.Core.Bool.{Bool, true, false, not}
use Rattle.lft_scheduler.specs.declared.turn.{phase.Phase.{Phase, TheVariants.{Idle, Waiting, Open}}, seats.Seat.Seat}
use Rattle.lft_scheduler.specs.inner.Seats.{busy_at, busy, times, hit, load, gain, loss, differ, uncounted, AreOnce, IsMoving, IsPushed}
use Rattle.lft_scheduler.proofs.{Adding.{hit_same, hit_apart, times_drop, load_small, tally_written}, WrittenSeats.{room_to_turn, written_moves}}

pub busy_waits : (p : Phase) (n : ℕ) → 0 < n → busy_at p n ≡ true
busy_waits Idle zero l = absurd (omega arith)
busy_waits Idle (suc n) l = refl
busy_waits Waiting n l = refl
busy_waits Open n l = refl

-- what a seat is after it was told
pub record IsTold (up : Bool) (s y : Seat) : Type 0 where
  pub phase : y.phase ≡ s.phase
  pub counted : y.counted ≡ s.counted
  pub more : up ≡ true → y.waits ≡ s.waits + 1
  pub less : up ≡ false → y.waits + 1 ≡ s.waits

module _ (after : List (List ℕ)) (seats : List Seat) (stack : List ℕ) (top k r : ℕ) (s : Seat) (list : List ℕ) (e : slice_get list k ≡ Some r) (f : slice_get seats r ≡ Some s) where
  rest : (x : ℕ) → times x (drop k list) ≡ hit x r + times x (drop (k + 1) list)
  rest x = times_drop list k r e x

  pub told_others : (q : ℕ) → q ≢ r → times q (drop (k + 1) list) ≡ times q (drop k list)
  told_others q n = let h = hit_apart q r n in let t = rest q in omega arith

  pub told_fits : (up : Bool) → IsMoving up after seats stack top (drop k list) → AreOnce after → up ≡ true → s.waits < length seats
  told_fits true w o u = let a = w.waits r s f in let t = rest r in let h = hit_same r in let l = load_small seats after o r in omega arith
  told_fits false w o u = absurd (false≢true u)

  pub told_some : (up : Bool) → IsMoving up after seats stack top (drop k list) → up ≡ false → 0 < s.waits
  told_some true w u = absurd (true≢false u)
  told_some false w u = let a = w.waits r s f in let t = rest r in let h = hit_same r in omega arith

  module _ (y : Seat) where
    pub told_own : (up : Bool) → IsMoving up after seats stack top (drop k list) → IsTold up s y → y.waits + gain up (times r (drop (k + 1) list)) ≡ load seats after r + loss up (times r (drop (k + 1) list))
    told_own true w i = let a = w.waits r s f in let t = rest r in let h = hit_same r in let m = i.more refl in omega arith
    told_own false w i = let a = w.waits r s f in let t = rest r in let h = hit_same r in let m = i.less refl in omega arith

    pub told_turns : (up : Bool) → IsMoving up after seats stack top (drop k list) → IsTold up s y → (busy y ≡ busy s) ⊎ ((busy s ≡ not up) × (busy y ≡ up))
    told_turns true w i = at (cases_Bool (busy s))
      where
        now : busy y ≡ true
        now = busy_waits y.phase y.waits (let m = i.more refl in omega arith)

        at : (busy s ≡ true) ⊎ (busy s ≡ false) → (busy y ≡ busy s) ⊎ ((busy s ≡ not true) × (busy y ≡ true))
        at (inl b) = inl (now ∙ sym b)
        at (inr b) = inr (b, now)
    told_turns false w i = at (cases_Bool (busy y))
      where
        was : busy s ≡ true
        was = busy_waits s.phase s.waits (let m = i.less refl in omega arith)

        at : (busy y ≡ true) ⊎ (busy y ≡ false) → (busy y ≡ busy s) ⊎ ((busy s ≡ not false) × (busy y ≡ false))
        at (inl b) = inl (b ∙ sym was)
        at (inr b) = inr (was, b)

pub phases_kept : (seats : List Seat) (i : ℕ) (s y : Seat) → slice_get seats i ≡ Some s → y.phase ≡ s.phase → map (λ (x : Seat). x.phase) (slice_set seats i y) ≡ map (λ (x : Seat). x.phase) seats
phases_kept [] i s y e p = absurd (cc)
phases_kept (z ∷ zs) zero s y e p = let q : z ≡ s = cc in ap (λ t. t ∷ map (λ (x : Seat). x.phase) zs) (p ∙ ap (λ (x : Seat). x.phase) (sym q))
phases_kept (z ∷ zs) (suc i) s y e p = ap (λ l. z.phase ∷ l) (phases_kept zs i s y e p)

module _ (up : Bool) (after : List (List ℕ)) (seats : List Seat) (stack : List ℕ) (top k r : ℕ) (s y : Seat) (list : List ℕ) (e : slice_get list k ≡ Some r) (f : slice_get seats r ≡ Some s) (w : IsMoving up after seats stack top (drop k list)) (is : IsTold up s y) where
  pub told_room : busy y ≢ busy s → top < length stack
  told_room = room_to_turn up after seats stack top r s y (drop k list) (drop (k + 1) list) w f is.counted (told_own after seats stack top k r s list e f y up w is) (told_others after seats stack top k r s list e f) (told_turns after seats stack top k r s list e f y up w is)

  pub told_moves : (stack_after : List ℕ) (top_after : ℕ) → IsPushed (busy s) (busy y) stack top r stack_after top_after → IsMoving up after (slice_set seats r y) stack_after top_after (drop (k + 1) list)
  told_moves stack_after top_after p = written_moves up after seats stack top r s y (drop k list) (drop (k + 1) list) w f is.counted (told_own after seats stack top k r s list e f y up w is) (told_others after seats stack top k r s list e f) stack_after top_after (told_turns after seats stack top k r s list e f y up w is) p

  pub told_as_many : uncounted up (slice_set seats r y) ≡ uncounted up seats
  told_as_many = let t = tally_written (λ x. differ up x.counted) seats r s y f in let c : differ up y.counted ≡ differ up s.counted = ap (differ up) is.counted in omega arith
