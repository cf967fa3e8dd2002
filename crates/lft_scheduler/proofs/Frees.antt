-- The set of the reactions that may start.
use Rattle.std.proofs.Common.{◌≡◌, ◌≢◌, ℕ, ◌+◌, ◌/◌, ◌⊎◌, inl, inr, List, length, refl, sym, ap, ◌∙◌, subst, arith, Some, slice_get, slice_set, replicate}
use Rattle.std.specs.Prelude.{◌↔◌, IsTrue}
use Rattle.std.proofs.lemmas.{Option.slice_get_within, Bool.false≢true}
use Rattle.lft_lists.proofs.Places.{get_write_cases, get_same, length_written, length_same}
use Rattle.lft_graph.specs.Sets.{Has}
use Rattle.lft_scheduler.{specs.{declared.turn.seats.Seat.Seat, inner.Seats.{free_at, free, AreFreeSeats}}, proofs.Starting.idle_seat}

module _ (seats : List Seat) (frees new : List ℕ) (r : ℕ) (s y : Seat) (w : AreFreeSeats seats frees) (e : slice_get seats r ≡ Some s) where
  -- what is kept for a reaction changes, and the set with it
  pub frees_written : length new ≡ length frees → IsTrue (free y) ↔ Has new r → ((q : ℕ) → q ≢ r → Has new q ↔ Has frees q) → AreFreeSeats (slice_set seats r y) new
  frees_written long here others = record { room = (let a = length_written seats r y in let b = w.room in omega arith); each = λ q x f. each q x (get_write_cases seats r q y x (slice_get_within seats r s e) f) }
    where
      each : (q : ℕ) (x : Seat) → ((q ≡ r) × (y ≡ x)) ⊎ ((q ≢ r) × (slice_get seats q ≡ Some x)) → IsTrue (free x) ↔ Has new q
      each q x (inl c) = subst (λ (k : ℕ). IsTrue (free x) ↔ Has new k) (sym c.0) (subst (λ (t : Seat). IsTrue (free t) ↔ Has new r) c.1 here)
      each q x (inr c) = let o = others q c.0 in let i = w.each q x c.1 in (λ t. o.1 (i.0 t), λ h. i.1 (o.0 h))

-- whether it counts doesn't matter
pub frees_kept : (seats : List Seat) (frees : List ℕ) (r : ℕ) (s y : Seat) → AreFreeSeats seats frees → slice_get seats r ≡ Some s → y.phase ≡ s.phase → y.waits ≡ s.waits → AreFreeSeats (slice_set seats r y) frees
frees_kept seats frees r s y w e phase waits = frees_written seats frees frees r s y w e refl (subst (λ b. IsTrue b ↔ Has frees r) (sym same) (w.each r s e)) (λ q n. (λ h. h, λ h. h))
  where
    same : free y ≡ free s
    same = ap (λ p. free_at p y.waits) phase ∙ ap (free_at s.phase) waits

-- none may start where all are idle
pub frees_idle : (n : ℕ) (frees : List ℕ) → length frees ≡ n / 64 + 1 → ((r : ℕ) → Has frees r → ⊥) → AreFreeSeats (replicate n idle_seat) frees
frees_idle n frees long none = record { room = (let l = length_same n idle_seat in omega arith); each = λ r s e. (λ t. absurd (false≢true (ap free (sym (get_same n r idle_seat s e)) ∙ t)), λ h. absurd (none r h)) }
