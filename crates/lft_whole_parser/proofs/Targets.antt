-- What is found among the properties of a target, place by place, and what is between quotes.
use Rattle.std.proofs.Common.{◌≡◌, ℕ, suc, ◌+◌, ◌-◌, ◌≤◌, ◌<◌, Bool, false, List, [], ◌∷◌, ◌++◌, Option, Some, None, refl, ap, append_assoc, arith, length, take, drop}
use Rattle.std.specs.Prelude.{filter_map, find, option_to_list}
use Rattle.std.proofs.lemmas.List.{append-nil}
use Rattle.lft_whole_parser.specs.Files.{places_from, inner_bytes}

places_some : (at left : ℕ) (end : ℕ) → left ≡ end - (at + 1) → at < end → end - at ≡ suc left
places_some at left end e lt = omega (arith, e, lt)

-- the first of the places that are left
pub places_turn : (at end : ℕ) → at < end → places_from at (end - at) ≡ at ∷ places_from (at + 1) (end - (at + 1))
places_turn at end lt = ap (places_from at) (places_some at (end - (at + 1)) end refl lt)

-- none is left
pub places_done : (at end : ℕ) → end ≤ at → places_from at (end - at) ≡ []
places_done at end le = let e : end - at ≡ 0 = omega (arith, le) in ap (places_from at) e

moved : {A B : Type 0} (xs : List B) (o : Option B) (rest : List B) (h : A → Option B) (x : A) (ys : List A) → o ≡ h x → rest ≡ filter_map h ys → (xs ++ option_to_list o) ++ rest ≡ xs ++ filter_map h (x ∷ ys)
moved xs None rest h x ys e f = rw (← e, append-nil xs) (ap (λ l. xs ++ l) f)
moved xs (Some b) rest h x ys e f = rw (← e, append_assoc) (ap (λ l. xs ++ (b ∷ l)) f)

-- one place further on
pub found_turn : {B : Type 0} (h : ℕ → Option B) (xs : List B) (o : Option B) (at end : ℕ) → at < end → o ≡ h at
    → (xs ++ option_to_list o) ++ filter_map h (places_from (at + 1) (end - (at + 1))) ≡ xs ++ filter_map h (places_from at (end - at))
found_turn h xs o at end lt e = rw (places_turn at end lt) (moved xs o (filter_map h (places_from (at + 1) (end - (at + 1)))) h at (places_from (at + 1) (end - (at + 1))) e refl)

pub found_done : {B : Type 0} (h : ℕ → Option B) (xs : List B) (at end : ℕ) → end ≤ at → xs ++ filter_map h (places_from at (end - at)) ≡ xs
found_done h xs at end le = rw (places_done at end le) (append-nil xs)

pub find_turn : (h : ℕ → Bool) (at end : ℕ) → at < end → h at ≡ false → find h (places_from (at + 1) (end - (at + 1))) ≡ find h (places_from at (end - at))
find_turn h at end lt t = rw (places_turn at end lt, t) refl

pub short_inner : (bytes : List ℕ) → length bytes < 2 → inner_bytes bytes ≡ []
short_inner bytes short = let e : length bytes - 1 - 1 ≡ 0 = omega (arith, short) in ap (λ (n : ℕ). take n (drop 1 bytes)) e
