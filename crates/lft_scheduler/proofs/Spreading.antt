-- Seats at rest tell which reactions are blocked and which are free.
use Rattle.std.proofs.Common.{◌≡◌, ℕ, zero, suc, ◌<◌, ◌≤◌, ◌⊎◌, inl, inr, List, length, refl, sym, ap, ◌∙◌, subst, arith, Option, Some, slice_get, Contains, option_map}
use Rattle.std.proofs.lemmas.{Option.{slice_get_within, slice_get-map}, Bool.{false≢true, cases_lt}}
use mathlib.Core.Bool.{true}
use Rattle.lft_graph.specs.Sets.{Has}
use Rattle.lft_lists.proofs.Places.{get_there, same_at, contains_at, at_contains}
use Rattle.lft_scheduler.specs.declared.turn.{phase.Phase.{Phase, TheVariants.{Idle, Waiting, Open}}, seats.Seat.Seat}
use Rattle.lft_scheduler.specs.inner.Seats.{busy_at, busy, free_at, IsAtRest, IsMirror, AreFreeSeats, phases_of}
use Rattle.lft_scheduler.proofs.{Blocked.{IsBusy, IsFree, SpreadsAlong}, Adding.{times_at, times_back, load_some, load_back}, ToldSeats.busy_waits}

-- some of the short list of r are busy
abbrev pub IsHeld : List Seat → ℕ → Type 0
IsHeld seats r = (s : Seat) × (slice_get seats r ≡ Some s) × (0 < s.waits)

free_parts : (p : Phase) (n : ℕ) → free_at p n ≡ true → (p ≡ Waiting) × (n ≡ 0)
free_parts Idle n e = absurd (false≢true e)
free_parts Waiting zero e = (refl, refl)
free_parts Waiting (suc n) e = absurd (false≢true e)
free_parts Open n e = absurd (false≢true e)

free_made : (n : ℕ) → n ≡ 0 → free_at Waiting n ≡ true
free_made zero e = refl
free_made (suc n) e = absurd (omega arith)

busy_cases : (p : Phase) (n : ℕ) → busy_at p n ≡ true → ((p ≡ Waiting) ⊎ (p ≡ Open)) ⊎ (0 < n)
busy_cases Idle zero e = absurd (false≢true e)
busy_cases Idle (suc n) e = inr (omega arith)
busy_cases Waiting n e = inl (inl refl)
busy_cases Open n e = inl (inr refl)

module _ (seats : List Seat) where
  pub phase_there : (r : ℕ) (s : Seat) → slice_get seats r ≡ Some s → slice_get (phases_of seats) r ≡ Some s.phase
  phase_there r s e = slice_get-map (λ (x : Seat). x.phase) seats r ∙ ap (option_map (λ (x : Seat). x.phase)) e

  pub phase_back : (r : ℕ) (p : Phase) → slice_get (phases_of seats) r ≡ Some p → (s : Seat) × (slice_get seats r ≡ Some s) × (s.phase ≡ p)
  phase_back r p e = go (slice_get seats r) refl
    where
      go : (o : Option Seat) → slice_get seats r ≡ o → (s : Seat) × (slice_get seats r ≡ Some s) × (s.phase ≡ p)
      go o f = at o f (sym (ap (option_map (λ (x : Seat). x.phase)) f) ∙ sym (slice_get-map (λ (x : Seat). x.phase) seats r) ∙ e)
        where
          at : (o : Option Seat) → slice_get seats r ≡ o → option_map (λ (x : Seat). x.phase) o ≡ Some p → (s : Seat) × (slice_get seats r ≡ Some s) × (s.phase ≡ p)
          at (Some s) f g = (s, f, (let q : s.phase ≡ p = cc in q))
          at Option.None f g = absurd (cc)

  -- a seat is busy where its reaction is pending or held
  pub busy_is : (r : ℕ) (s : Seat) → slice_get seats r ≡ Some s → busy s ≡ true → IsBusy (phases_of seats) (IsHeld seats) r
  busy_is r s e b = at (busy_cases s.phase s.waits b)
    where
      at : ((s.phase ≡ Waiting) ⊎ (s.phase ≡ Open)) ⊎ (0 < s.waits) → IsBusy (phases_of seats) (IsHeld seats) r
      at (inl (inl p)) = inl (inl (phase_there r s e ∙ ap Some p))
      at (inl (inr p)) = inl (inr (phase_there r s e ∙ ap Some p))
      at (inr l) = inr (s, e, l)

  pub is_busy : (r : ℕ) → IsBusy (phases_of seats) (IsHeld seats) r → (s : Seat) × (slice_get seats r ≡ Some s) × (busy s ≡ true)
  is_busy r (inl (inl p)) = let b = phase_back r Waiting p in (b.0, b.1, ap (λ q. busy_at q b.0.waits) b.2)
  is_busy r (inl (inr p)) = let b = phase_back r Open p in (b.0, b.1, ap (λ q. busy_at q b.0.waits) b.2)
  is_busy r (inr h) = (h.0, h.1, busy_waits h.0.phase h.0.waits h.2)

pub held_or_not : (seats : List Seat) (r : ℕ) → r < length seats → IsHeld seats r ⊎ (¬ IsHeld seats r)
held_or_not seats r l = at (get_there seats r l)
  where
    at : (s : Seat) × (slice_get seats r ≡ Some s) → IsHeld seats r ⊎ (¬ IsHeld seats r)
    at s = elim (cases_lt 0 s.0.waits) [ inl w ↦ inl (s.0, s.1, w) | inr w ↦ inr (λ h. (let n : h.0 ≡ s.0 = same_at seats r r h.0 s.0 h.1 s.1 refl in let m : 0 < s.0.waits = subst (λ (x : Seat). 0 < x.waits) n h.2 in absurd (omega arith))) ]

module _ (before after : List (List ℕ)) (seats : List Seat) (w : IsAtRest after seats) (m : IsMirror before after) where
  pub spreads : SpreadsAlong before (phases_of seats) (IsHeld seats)
  spreads r mine e = (forth, back)
    where
      inside : r < length before
      inside = slice_get_within before r mine e

      seat : (s : Seat) × (slice_get seats r ≡ Some s)
      seat = get_there seats r (let i = inside in let a = w.as_long in let b = m.as_long in omega arith)

      forth : IsHeld seats r → (b : ℕ) × Contains mine b × IsBusy (phases_of seats) (IsHeld seats) b
      forth h =
          let l = w.waits r h.0 h.1 in
          let p = h.2 in
          let o = load_back seats after r (omega arith) in
          let t = m.there o.by r o.list mine o.is_list e inside in
          let n = times_at o.list o.place r o.is_member in
          let k = times_back mine o.by (omega arith) in
          (o.by, contains_at mine k.0 o.by k.1, busy_is seats o.by o.seat o.is_seat (w.counted o.by o.seat o.is_seat ∙ o.counts))

      back : (b : ℕ) × Contains mine b × IsBusy (phases_of seats) (IsHeld seats) b → IsHeld seats r
      back t =
          let s = is_busy seats t.0 t.2 in
          let a = w.as_long in
          let i = slice_get_within seats t.0 s.0 s.1 in
          let list = get_there after t.0 (omega arith) in
          let c = at_contains mine t.0 t.1 in
          let n = times_at mine c.0 t.0 c.1 in
          let q = m.there t.0 r list.0 mine list.1 e inside in
          let k = times_back list.0 r (omega arith) in
          let l = load_some seats after t.0 k.0 r s.0 list.0 s.1 (sym (w.counted t.0 s.0 s.1) ∙ s.2) list.1 k.1 in
          let z = seat in
          let v = w.waits r z.0 z.1 in
          (z.0, z.1, omega arith)

module _ (seats : List Seat) (frees : List ℕ) (w : AreFreeSeats seats frees) where
  pub has_free : (r : ℕ) → r < length seats → Has frees r → IsFree (phases_of seats) (IsHeld seats) r
  has_free r l h =
      let s = get_there seats r l in
      let p = free_parts s.0.phase s.0.waits ((w.each r s.0 s.1).1 h) in
      let z = p.1 in
      (phase_there seats r s.0 s.1 ∙ ap Some p.0, λ h. (let n : h.0 ≡ s.0 = same_at seats r r h.0 s.0 h.1 s.1 refl in let l : 0 < s.0.waits = subst (λ (x : Seat). 0 < x.waits) n h.2 in omega arith))

  pub free_has : (r : ℕ) → IsFree (phases_of seats) (IsHeld seats) r → (r < length seats) × Has frees r
  free_has r f =
      let s = phase_back seats r Waiting f.0 in
      let z : s.0.waits ≡ 0 = at s.0 s.1 (cases_lt 0 s.0.waits) in
      (slice_get_within seats r s.0 s.1, (w.each r s.0 s.1).0 (ap (λ p. free_at p s.0.waits) s.2 ∙ free_made s.0.waits z))
    where
      at : (s : Seat) → slice_get seats r ≡ Some s → (0 < s.waits) ⊎ (s.waits ≤ 0) → s.waits ≡ 0
      at s e (inl l) = absurd (f.1 (s, e, l))
      at s e (inr l) = omega arith
