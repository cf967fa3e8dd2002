-- What one write keeps on the way to rest.
use Rattle.std.proofs.Common.{◌≡◌, ◌≢◌, ℕ, ◌+◌, ◌<◌, ◌⊎◌, inl, inr, List, [], length, refl, sym, ap, ◌∙◌, subst, arith, Some, slice_get, slice_set}
use Rattle.std.proofs.lemmas.{Option.slice_get_within, Bool.cases_eq}
use mathlib.Core.Bool.{Bool, not}
use Rattle.lft_lists.proofs.Places.{get_written, get_unwritten, get_write_cases, length_written, same_at}
use Rattle.lft_scheduler.specs.declared.turn.seats.Seat.{Seat}
use Rattle.lft_scheduler.specs.inner.Seats.{busy_at, busy, differ, tally_of_seats, times, load, gain, loss, IsAtRest, IsMoving, IsStacked, IsPushed}
use Rattle.lft_scheduler.proofs.Adding.{not_self, differ_same, differ_not, gain_none, loss_none, tally_written, tally_some, tally_same, tally_small, load_flip, load_same}

same_busy : (s y : Seat) → y.phase ≡ s.phase → y.waits ≡ s.waits → busy y ≡ busy s
same_busy s y e f = ap (λ p. busy_at p y.waits) e ∙ ap (busy_at s.phase) f

-- at rest nothing is on the stack
pub rest_moving : (up : Bool) (after : List (List ℕ)) (seats : List Seat) (stack : List ℕ) → IsAtRest after seats → length stack ≡ length after → IsMoving up after seats stack 0 []
rest_moving up after seats stack w l = record {
  as_long = w.as_long;
  room = l;
  waits = λ r s e. (let a = w.waits r s e in let g = gain_none up in let h = loss_none up in omega arith);
  stacked = λ i r m e. absurd (omega arith);
  once = λ i j r m n e f. absurd (omega arith);
  counted = λ r s e. inl (w.counted r s e);
  total = (let t = tally_same (λ s. differ up (busy s)) (λ s. differ up s.counted) seats (λ i x e. ap (differ up) (w.counted i x e)) in omega arith);
}

-- one is taken off the stack, and counts as it is
module _ (up : Bool) (after : List (List ℕ)) (seats : List Seat) (stack : List ℕ) (top a : ℕ) (s y : Seat) (list : List ℕ) (w : IsMoving up after seats stack (top + 1) []) (es : slice_get stack top ≡ Some a) (e : slice_get seats a ≡ Some s) (el : slice_get after a ≡ Some list) (phase : y.phase ≡ s.phase) (waits : y.waits ≡ s.waits) (now : y.counted ≡ up) where
  was_stacked : (x : Seat) × (slice_get seats a ≡ Some x) × (x.counted ≡ not up) × (busy x ≡ up)
  was_stacked = w.stacked top a (omega arith) es

  is_s : was_stacked.0 ≡ s
  is_s = same_at seats a a was_stacked.0 s was_stacked.1 e refl

  was : s.counted ≡ not up
  was = subst (λ (x : Seat). x.counted ≡ not up) is_s was_stacked.2

  is_busy : busy s ≡ up
  is_busy = subst (λ (x : Seat). busy x ≡ up) is_s was_stacked.3

  same : busy y ≡ busy s
  same = same_busy s y phase waits

  cases : (r : ℕ) (q : Seat) → slice_get (slice_set seats a y) r ≡ Some q → ((r ≡ a) × (y ≡ q)) ⊎ ((r ≢ a) × (slice_get seats r ≡ Some q))
  cases r q f = get_write_cases seats a r y q (slice_get_within seats a s e) f

  popped_waits : (r : ℕ) (q : Seat) → ((r ≡ a) × (y ≡ q)) ⊎ ((r ≢ a) × (slice_get seats r ≡ Some q)) → q.waits + gain up (times r list) ≡ load (slice_set seats a y) after r + loss up (times r list)
  popped_waits r q (inl c) =
      let o = w.waits a s e in
      let g = gain_none up in
      let h = loss_none up in
      let m : s.waits ≡ load seats after r = (let n : s.waits ≡ load seats after a = omega arith in n ∙ ap (load seats after) (sym c.0)) in
      let x : q.waits ≡ s.waits = ap (λ (t : Seat). t.waits) (sym c.1) ∙ waits in
      let f = load_flip up seats after a s y list e el was now r in
      omega arith
  popped_waits r q (inr c) =
      let o = w.waits r q c.1 in
      let g = gain_none up in
      let h = loss_none up in
      let f = load_flip up seats after a s y list e el was now r in
      omega arith

  popped_stacked : (i r : ℕ) → i < top → slice_get stack i ≡ Some r → (x : Seat) × (slice_get (slice_set seats a y) r ≡ Some x) × (x.counted ≡ not up) × (busy x ≡ up)
  popped_stacked i r l f =
      let o = w.stacked i r (omega arith) f in
      let n : r ≢ a = λ q. (let j : i ≡ top = w.once i top a (omega arith) (omega arith) (f ∙ ap Some q) es in absurd (omega arith)) in
      (o.0, get_unwritten seats a r y n ∙ o.1, o.2, o.3)

  popped_counted : (r : ℕ) (q : Seat) → ((r ≡ a) × (y ≡ q)) ⊎ ((r ≢ a) × (slice_get seats r ≡ Some q)) → (busy q ≡ q.counted) ⊎ IsStacked stack top r
  popped_counted r q (inl c) = inl (subst (λ (x : Seat). busy x ≡ x.counted) c.1 (same ∙ is_busy ∙ sym now))
  popped_counted r q (inr c) = at (w.counted r q c.1)
    where
      at : (busy q ≡ q.counted) ⊎ IsStacked stack (top + 1) r → (busy q ≡ q.counted) ⊎ IsStacked stack top r
      at (inl b) = inl b
      at (inr t) = inr (t.0, (let l : t.0 < top + 1 = t.1 in let n : t.0 ≢ top = λ j. c.0 (same_at stack t.0 top r a t.2 es j) in omega arith), t.2)

  pub popped_fewer : tally_of_seats (λ x. differ up x.counted) (slice_set seats a y) + 1 ≡ tally_of_seats (λ x. differ up x.counted) seats
  popped_fewer =
      let t = tally_written (λ x. differ up x.counted) seats a s y e in
      let m : differ up s.counted ≡ 1 = ap (differ up) was ∙ differ_not up in
      let n : differ up y.counted ≡ 0 = ap (differ up) now ∙ differ_same up in
      omega arith

  pub popped : IsMoving up after (slice_set seats a y) stack top list
  popped = record {
    as_long = length_written seats a y ∙ w.as_long;
    room = w.room;
    waits = λ r q f. popped_waits r q (cases r q f);
    stacked = popped_stacked;
    once = λ i j r l m f g. w.once i j r (omega arith) (omega arith) f g;
    counted = λ r q f. popped_counted r q (cases r q f);
    total = (let f = popped_fewer in let o = w.total in let t = tally_written (λ x. differ up (busy x)) seats a s y e in let b : differ up (busy y) ≡ differ up (busy s) = ap (differ up) same in omega arith);
  }

-- what is kept for a reaction changes, and whether it counts doesn't
module _ (up : Bool) (after : List (List ℕ)) (seats : List Seat) (stack : List ℕ) (top r : ℕ) (s y : Seat) (rest more : List ℕ) (w : IsMoving up after seats stack top rest) (e : slice_get seats r ≡ Some s) (same : y.counted ≡ s.counted) (own : y.waits + gain up (times r more) ≡ load seats after r + loss up (times r more)) (others : (q : ℕ) → q ≢ r → times q more ≡ times q rest) where
  IsOneOf : ℕ → Seat → Type 0
  IsOneOf q x = ((q ≡ r) × (y ≡ x)) ⊎ ((q ≢ r) × (slice_get seats q ≡ Some x))

  one_of : (q : ℕ) (x : Seat) → slice_get (slice_set seats r y) q ≡ Some x → IsOneOf q x
  unfolding IsOneOf
  one_of q x f = get_write_cases seats r q y x (slice_get_within seats r s e) f

  kept_load : (q : ℕ) → load (slice_set seats r y) after q ≡ load seats after q
  kept_load q = load_same seats after r s y e same q

  written_waits : (q : ℕ) (x : Seat) → IsOneOf q x → x.waits + gain up (times q more) ≡ load (slice_set seats r y) after q + loss up (times q more)
  unfolding IsOneOf
  written_waits q x (inl c) =
      let k = kept_load q in
      let o : x.waits + gain up (times q more) ≡ load seats after q + loss up (times q more) = subst (λ (j : ℕ). x.waits + gain up (times j more) ≡ load seats after j + loss up (times j more)) (sym c.0) (subst (λ (t : Seat). t.waits + gain up (times r more) ≡ load seats after r + loss up (times r more)) c.1 own) in
      omega arith
  written_waits q x (inr c) =
      let k = kept_load q in
      let o : x.waits + gain up (times q more) ≡ load seats after q + loss up (times q more) = subst (λ (n : ℕ). x.waits + gain up n ≡ load seats after q + loss up n) (sym (others q c.0)) (w.waits q x c.1) in
      omega arith

  module _ (kept : busy y ≡ busy s) where
    stay_stacked : (i q : ℕ) → i < top → slice_get stack i ≡ Some q → (x : Seat) × (slice_get (slice_set seats r y) q ≡ Some x) × (x.counted ≡ not up) × (busy x ≡ up)
    stay_stacked i q l f = at (w.stacked i q l f) (cases_eq q r)
      where
        at : (x : Seat) × (slice_get seats q ≡ Some x) × (x.counted ≡ not up) × (busy x ≡ up) → (q ≡ r) ⊎ (q ≡ r → ⊥) → (x : Seat) × (slice_get (slice_set seats r y) q ≡ Some x) × (x.counted ≡ not up) × (busy x ≡ up)
        at o (inl c) =
            let z : o.0 ≡ s = same_at seats q r o.0 s o.1 e c in
            (y, subst (λ j. slice_get (slice_set seats r y) j ≡ Some y) (sym c) (get_written seats r y (slice_get_within seats r s e)), same ∙ ap (λ (x : Seat). x.counted) (sym z) ∙ o.2, kept ∙ ap busy (sym z) ∙ o.3)
        at o (inr n) = (o.0, get_unwritten seats r q y n ∙ o.1, o.2, o.3)

    stay_counted : (q : ℕ) (x : Seat) → IsOneOf q x → (busy x ≡ x.counted) ⊎ IsStacked stack top q
    unfolding IsOneOf
    stay_counted q x (inl c) = at (w.counted r s e)
      where
        at : (busy s ≡ s.counted) ⊎ IsStacked stack top r → (busy x ≡ x.counted) ⊎ IsStacked stack top q
        at (inl b) = inl (subst (λ (t : Seat). busy t ≡ t.counted) c.1 (kept ∙ b ∙ sym same))
        at (inr t) = inr (t.0, t.1, t.2 ∙ ap Some (sym c.0))
    stay_counted q x (inr c) = w.counted q x c.1

    pub written_stays : IsMoving up after (slice_set seats r y) stack top more
    written_stays = record {
      as_long = length_written seats r y ∙ w.as_long;
      room = w.room;
      waits = λ q x f. written_waits q x (one_of q x f);
      stacked = stay_stacked;
      once = w.once;
      counted = λ q x f. stay_counted q x (one_of q x f);
      total = (let o = w.total in let t = tally_written (λ x. differ up (busy x)) seats r s y e in let b : differ up (busy y) ≡ differ up (busy s) = ap (differ up) kept in let u = tally_written (λ x. differ up x.counted) seats r s y e in let c : differ up y.counted ≡ differ up s.counted = ap (differ up) same in omega arith);
    }

  module _ (before : busy s ≡ not up) (now : busy y ≡ up) where
    not_stacked : IsStacked stack top r → ⊥
    not_stacked t =
        let o = w.stacked t.0 r t.1 t.2 in
        let z : o.0 ≡ s = same_at seats r r o.0 s o.1 e refl in
        not_self up (sym o.3 ∙ ap busy z ∙ before)

    not_counted : s.counted ≡ not up
    not_counted = at (w.counted r s e)
      where
        at : (busy s ≡ s.counted) ⊎ IsStacked stack top r → s.counted ≡ not up
        at (inl b) = sym b ∙ before
        at (inr t) = absurd (not_stacked t)

    pub has_room : top < length stack
    has_room =
        let o = w.total in
        let f : differ up (busy s) ≡ 1 = ap (differ up) before ∙ differ_not up in
        let t = tally_some (λ x. differ up (busy x)) seats r s e in
        let u = tally_small up seats in
        let l = w.as_long in
        let m = w.room in
        omega arith

    push_cases : (i q : ℕ) → slice_get (slice_set stack top r) i ≡ Some q → ((i ≡ top) × (r ≡ q)) ⊎ ((i ≢ top) × (slice_get stack i ≡ Some q))
    push_cases i q f = get_write_cases stack top i r q has_room f

    push_stacked : (i q : ℕ) → i < top + 1 → ((i ≡ top) × (r ≡ q)) ⊎ ((i ≢ top) × (slice_get stack i ≡ Some q)) → (x : Seat) × (slice_get (slice_set seats r y) q ≡ Some x) × (x.counted ≡ not up) × (busy x ≡ up)
    push_stacked i q l (inl c) = (y, subst (λ j. slice_get (slice_set seats r y) j ≡ Some y) c.1 (get_written seats r y (slice_get_within seats r s e)), same ∙ not_counted, now)
    push_stacked i q l (inr c) =
        let m = c.0 in
        let below : i < top = omega arith in
        let o = w.stacked i q below c.1 in
        let n : q ≢ r = λ z. not_stacked (i, below, c.1 ∙ ap Some z) in
        (o.0, get_unwritten seats r q y n ∙ o.1, o.2, o.3)

    push_once : (i j q : ℕ) → i < top + 1 → j < top + 1 → ((i ≡ top) × (r ≡ q)) ⊎ ((i ≢ top) × (slice_get stack i ≡ Some q)) → ((j ≡ top) × (r ≡ q)) ⊎ ((j ≢ top) × (slice_get stack j ≡ Some q)) → i ≡ j
    push_once i j q l m (inl a) (inl b) = a.0 ∙ sym b.0
    push_once i j q l m (inl a) (inr b) = absurd (not_stacked (j, (let n = b.0 in omega arith), b.1 ∙ ap Some (sym a.1)))
    push_once i j q l m (inr a) (inl b) = absurd (not_stacked (i, (let n = a.0 in omega arith), a.1 ∙ ap Some (sym b.1)))
    push_once i j q l m (inr a) (inr b) = let n = a.0 in let o = b.0 in w.once i j q (omega arith) (omega arith) a.1 b.1

    push_counted : (q : ℕ) (x : Seat) → IsOneOf q x → (busy x ≡ x.counted) ⊎ IsStacked (slice_set stack top r) (top + 1) q
    unfolding IsOneOf
    push_counted q x (inl c) = inr (top, omega arith, get_written stack top r has_room ∙ ap Some (sym c.0))
    push_counted q x (inr c) = at (w.counted q x c.1)
      where
        at : (busy x ≡ x.counted) ⊎ IsStacked stack top q → (busy x ≡ x.counted) ⊎ IsStacked (slice_set stack top r) (top + 1) q
        at (inl b) = inl b
        at (inr t) = let l : t.0 < top = t.1 in inr (t.0, omega arith, get_unwritten stack top t.0 r (λ z. absurd (omega arith)) ∙ t.2)

    pub written_goes : IsMoving up after (slice_set seats r y) (slice_set stack top r) (top + 1) more
    written_goes = record {
      as_long = length_written seats r y ∙ w.as_long;
      room = length_written stack top r ∙ w.room;
      waits = λ q x f. written_waits q x (one_of q x f);
      stacked = λ i q l f. push_stacked i q l (push_cases i q f);
      once = λ i j q l m f g. push_once i j q l m (push_cases i q f) (push_cases j q g);
      counted = λ q x f. push_counted q x (one_of q x f);
      total = (let o = w.total in let t = tally_written (λ x. differ up (busy x)) seats r s y e in let a : differ up (busy y) ≡ 0 = ap (differ up) now ∙ differ_same up in let b : differ up (busy s) ≡ 1 = ap (differ up) before ∙ differ_not up in let u = tally_written (λ x. differ up x.counted) seats r s y e in let c : differ up y.counted ≡ differ up s.counted = ap (differ up) same in omega arith);
    }

  -- either it stays as busy as it was, or it goes the way of the others
  abbrev pub Turns : Type 0
  Turns = (busy y ≡ busy s) ⊎ ((busy s ≡ not up) × (busy y ≡ up))

  pub room_to_turn : Turns → busy y ≢ busy s → top < length stack
  room_to_turn (inl k) n = absurd (n k)
  room_to_turn (inr k) n = has_room k.0 k.1

  pub written_moves : (stack_after : List ℕ) (top_after : ℕ) → Turns → IsPushed (busy s) (busy y) stack top r stack_after top_after → IsMoving up after (slice_set seats r y) stack_after top_after more
  written_moves stack_after top_after (inl k) p =
      let q = p.same k in
      subst (λ t. IsMoving up after (slice_set seats r y) stack_after t more) (sym q.1) (subst (λ l. IsMoving up after (slice_set seats r y) l top more) (sym q.0) (written_stays k))
  written_moves stack_after top_after (inr k) p =
      let q = p.pushed (λ z. not_self up (sym k.1 ∙ z ∙ k.0)) in
      subst (λ t. IsMoving up after (slice_set seats r y) stack_after t more) (sym q.1) (subst (λ l. IsMoving up after (slice_set seats r y) l (top + 1) more) (sym q.0) (written_goes k.0 k.1))
