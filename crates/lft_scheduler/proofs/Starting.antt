-- Seats where no reaction is triggered.
use Rattle.std.proofs.Common.{◌≡◌, ℕ, zero, suc, List, [], ◌∷◌, length, refl, sym, ap, ◌∙◌, arith, replicate}
use mathlib.Core.Bool.{false}
use Rattle.lft_lists.proofs.Places.{get_same, length_same}
use Rattle.lft_scheduler.specs.{declared.turn.{phase.Phase.TheVariants.Idle, seats.Seat.Seat}, inner.Seats.{busy, load, IsAtRest, phases_of}}

abbrev pub idle_seat : Seat
idle_seat = record { phase = Idle; waits = 0; counted = false }

load_idle : (n : ℕ) (after : List (List ℕ)) (r : ℕ) → load (replicate n idle_seat) after r ≡ 0
load_idle zero after r = refl
load_idle (suc n) [] r = refl
load_idle (suc n) (l ∷ ls) r = let h = load_idle n ls r in omega arith

pub phases_idle : (n : ℕ) → phases_of (replicate n idle_seat) ≡ replicate n Idle
phases_idle zero = refl
phases_idle (suc n) = ap (λ l. Idle ∷ l) (phases_idle n)

pub idle_rest : (n : ℕ) (after : List (List ℕ)) → length after ≡ n → IsAtRest after (replicate n idle_seat)
idle_rest n after l = record {
  as_long = length_same n idle_seat ∙ sym l;
  waits = λ r s e. ap (λ (x : Seat). x.waits) (get_same n r idle_seat s e) ∙ sym (load_idle n after r);
  counted = λ r s e. (let q = get_same n r idle_seat s e in ap busy q ∙ ap (λ (x : Seat). x.counted) (sym q));
}
