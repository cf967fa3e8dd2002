-- Sums over seats, and how they change at a write.
use Rattle.std.proofs.Common.{◌≡◌, ◌≢◌, ℕ, zero, suc, ◌+◌, ◌*◌, ◌<◌, ◌≤◌, ◌⊎◌, inl, inr, List, [], ◌∷◌, length, refl, sym, ap, ◌∙◌, subst, arith, Some, slice_get, slice_set, drop, get_or}
use Rattle.std.proofs.lemmas.{Option.{slice_get_within, slice_get-get_or}, List.drop_more, Bool.{true≢false, false≢true, cases_eq, cases_lt}}
use mathlib.Core.Bool.{Bool, true, false, not}
use Rattle.lft_scheduler.specs.{declared.turn.seats.Seat.Seat, inner.Seats.{one, differ, tally_of_seats, hit, times, load, gain, loss, AreOnce}}

pub not_self : (b : Bool) → b ≡ not b → ⊥
not_self true e = true≢false e
not_self false e = false≢true e

pub differ_same : (b : Bool) → differ b b ≡ 0
differ_same true = refl
differ_same false = refl

pub differ_not : (b : Bool) → differ b (not b) ≡ 1
differ_not true = refl
differ_not false = refl

pub gain_none : (up : Bool) → gain up 0 ≡ 0
gain_none true = refl
gain_none false = refl

pub loss_none : (up : Bool) → loss up 0 ≡ 0
loss_none true = refl
loss_none false = refl

pub hit_same : (a : ℕ) → hit a a ≡ 1
hit_same zero = refl
hit_same (suc a) = hit_same a

pub hit_apart : (a b : ℕ) → a ≢ b → hit a b ≡ 0
hit_apart zero zero n = absurd (n refl)
hit_apart zero (suc b) n = refl
hit_apart (suc a) zero n = refl
hit_apart (suc a) (suc b) n = hit_apart a b (λ e. n (ap suc e))

-- a list from a place on, one further
pub times_drop : (list : List ℕ) (k r : ℕ) → slice_get list k ≡ Some r → (x : ℕ) → times x (drop k list) ≡ hit x r + times x (drop (k + 1) list)
times_drop list k r e x =
    let w = slice_get_within list k r e in
    let g : slice_get list k ≡ Some (get_or list k r) = slice_get-get_or list k r w in
    let q : get_or list k r ≡ r = cc in
    ap (times x) (drop_more list k r w) ∙ ap (λ y. hit x y + times x (drop (k + 1) list)) q

pub times_at : (list : List ℕ) (i r : ℕ) → slice_get list i ≡ Some r → 0 < times r list
times_at [] i r e = absurd (cc)
times_at (y ∷ ys) zero r e = let q : y ≡ r = cc in let h : hit r y ≡ 1 = ap (hit r) q ∙ hit_same r in omega arith
times_at (y ∷ ys) (suc i) r e = let t = times_at ys i r e in omega arith

pub times_back : (list : List ℕ) (r : ℕ) → 0 < times r list → (i : ℕ) × (slice_get list i ≡ Some r)
times_back [] r l = absurd (omega arith)
times_back (y ∷ ys) r l = go (cases_eq r y) (times_back ys r)
  where
    go : (r ≡ y) ⊎ (r ≡ y → ⊥) → (0 < times r ys → (i : ℕ) × (slice_get ys i ≡ Some r)) → (i : ℕ) × (slice_get (y ∷ ys) i ≡ Some r)
    go (inl e) h = (0, ap Some (sym e))
    go (inr n) h = let z = hit_apart r y n in let t = h (omega arith) in (suc t.0, t.1)

pub tally_written : (f : Seat → ℕ) (xs : List Seat) (i : ℕ) (x y : Seat) → slice_get xs i ≡ Some x → tally_of_seats f (slice_set xs i y) + f x ≡ tally_of_seats f xs + f y
tally_written f [] i x y e = absurd (cc)
tally_written f (z ∷ xs) zero x y e = let q : z ≡ x = cc in let r : f z ≡ f x = ap f q in omega arith
tally_written f (z ∷ xs) (suc i) x y e = let r = tally_written f xs i x y e in omega arith

pub tally_some : (f : Seat → ℕ) (xs : List Seat) (i : ℕ) (x : Seat) → slice_get xs i ≡ Some x → f x ≤ tally_of_seats f xs
tally_some f [] i x e = absurd (cc)
tally_some f (z ∷ xs) zero x e = let q : z ≡ x = cc in let r : f z ≡ f x = ap f q in omega arith
tally_some f (z ∷ xs) (suc i) x e = let r = tally_some f xs i x e in omega arith

pub tally_same : (f g : Seat → ℕ) (xs : List Seat) → ((i : ℕ) (x : Seat) → slice_get xs i ≡ Some x → f x ≡ g x) → tally_of_seats f xs ≡ tally_of_seats g xs
tally_same f g [] h = refl
tally_same f g (z ∷ xs) h = let a = h 0 z refl in let b = tally_same f g xs (λ i x e. h (suc i) x e) in omega arith

differ_small : (a b : Bool) → differ a b ≤ 1
differ_small true true = omega arith
differ_small true false = omega arith
differ_small false true = omega arith
differ_small false false = omega arith

pub tally_small : (up : Bool) (xs : List Seat) → tally_of_seats (λ s. differ up s.counted) xs ≤ length xs
tally_small up [] = omega arith
tally_small up (z ∷ xs) = let a = differ_small up z.counted in let b = tally_small up xs in omega arith

flip_one : (up now was : Bool) → was ≡ not up → now ≡ up → (t l : ℕ) → one now * t + l + loss up t ≡ one was * t + l + gain up t
flip_one true true false e f t l = omega arith
flip_one true true true e f t l = absurd (true≢false e)
flip_one true false was e f t l = absurd (false≢true f)
flip_one false true was e f t l = absurd (true≢false f)
flip_one false false true e f t l = omega arith
flip_one false false false e f t l = absurd (false≢true e)

-- one that counts as busy now, or no longer
pub load_flip : (up : Bool) (seats : List Seat) (after : List (List ℕ)) (a : ℕ) (s y : Seat) (list : List ℕ) → slice_get seats a ≡ Some s → slice_get after a ≡ Some list → s.counted ≡ not up → y.counted ≡ up → (r : ℕ) → load (slice_set seats a y) after r + loss up (times r list) ≡ load seats after r + gain up (times r list)
load_flip up [] after a s y list e g c d r = absurd (cc)
load_flip up (z ∷ zs) [] a s y list e g c d r = absurd (cc)
load_flip up (z ∷ zs) (l ∷ ls) zero s y list e g c d r =
    let q : z ≡ s = cc in
    let m : l ≡ list = cc in
    let n : times r l ≡ times r list = ap (times r) m in
    subst (λ t. (one y.counted * times r l + load zs ls r) + loss up t ≡ (one z.counted * times r l + load zs ls r) + gain up t) n (flip_one up y.counted z.counted (ap (λ (x : Seat). x.counted) q ∙ c) d (times r l) (load zs ls r))
load_flip up (z ∷ zs) (l ∷ ls) (suc a) s y list e g c d r = let h = load_flip up zs ls a s y list e g c d r in omega arith

pub load_same : (seats : List Seat) (after : List (List ℕ)) (a : ℕ) (s y : Seat) → slice_get seats a ≡ Some s → y.counted ≡ s.counted → (r : ℕ) → load (slice_set seats a y) after r ≡ load seats after r
load_same [] after a s y e c r = absurd (cc)
load_same (z ∷ zs) [] zero s y e c r = refl
load_same (z ∷ zs) [] (suc a) s y e c r = refl
load_same (z ∷ zs) (l ∷ ls) zero s y e c r = let q : z ≡ s = cc in ap (λ b. one b * times r l + load zs ls r) (c ∙ ap (λ (x : Seat). x.counted) (sym q))
load_same (z ∷ zs) (l ∷ ls) (suc a) s y e c r = ap (λ n. one z.counted * times r l + n) (load_same zs ls a s y e c r)

one_small : (b : Bool) (t : ℕ) → t ≤ 1 → one b * t ≤ 1
one_small true t l = omega arith
one_small false t l = omega arith

pub load_small : (seats : List Seat) (after : List (List ℕ)) → AreOnce after → (r : ℕ) → load seats after r ≤ length seats
load_small [] after o r = omega arith
load_small (z ∷ zs) [] o r = omega arith
load_small (z ∷ zs) (l ∷ ls) o r = let h = load_small zs ls (λ a x list e. o (suc a) x list e) r in let t = one_small z.counted (times r l) (o 0 r l refl) in omega arith

one_some : (b : Bool) (t : ℕ) → b ≡ true → t ≤ one b * t
one_some true t e = omega arith
one_some false t e = absurd (false≢true e)

pub load_some : (seats : List Seat) (after : List (List ℕ)) (a i r : ℕ) (s : Seat) (list : List ℕ) → slice_get seats a ≡ Some s → s.counted ≡ true → slice_get after a ≡ Some list → slice_get list i ≡ Some r → 0 < load seats after r
load_some [] after a i r s list e c g h = absurd (cc)
load_some (z ∷ zs) [] a i r s list e c g h = absurd (cc)
load_some (z ∷ zs) (l ∷ ls) zero i r s list e c g h =
    let q : z ≡ s = cc in
    let m : l ≡ list = cc in
    let t : 0 < times r l = times_at l i r (subst (λ k. slice_get k i ≡ Some r) (sym m) h) in
    let o = one_some z.counted (times r l) (ap (λ (x : Seat). x.counted) q ∙ c) in
    omega arith
load_some (z ∷ zs) (l ∷ ls) (suc a) i r s list e c g h = let t = load_some zs ls a i r s list e c g h in omega arith

-- r stands in the list of one that counts as busy
pub record IsLoaded (seats : List Seat) (after : List (List ℕ)) (r : ℕ) : Type 0 where
  pub by : ℕ
  pub seat : Seat
  pub list : List ℕ
  pub place : ℕ
  pub is_seat : slice_get seats by ≡ Some seat
  pub counts : seat.counted ≡ true
  pub is_list : slice_get after by ≡ Some list
  pub is_member : slice_get list place ≡ Some r

pub load_back : (seats : List Seat) (after : List (List ℕ)) (r : ℕ) → 0 < load seats after r → IsLoaded seats after r
load_back [] after r l = absurd (omega arith)
load_back (z ∷ zs) [] r l = absurd (omega arith)
load_back (z ∷ zs) (k ∷ ks) r l = go z.counted refl (load_back zs ks r)
  where
    later : IsLoaded zs ks r → IsLoaded (z ∷ zs) (k ∷ ks) r
    later w = record { by = suc w.by; seat = w.seat; list = w.list; place = w.place; is_seat = w.is_seat; counts = w.counts; is_list = w.is_list; is_member = w.is_member }

    at : (0 < times r k) ⊎ (times r k ≤ 0) → z.counted ≡ true → (0 < load zs ks r → IsLoaded zs ks r) → IsLoaded (z ∷ zs) (k ∷ ks) r
    at (inl t) e h = let m = times_back k r t in record { by = 0; seat = z; list = k; place = m.0; is_seat = refl; counts = e; is_list = refl; is_member = m.1 }
    at (inr t) e h = later (h (let n : times r k ≡ 0 = omega arith in let q : one z.counted * times r k ≡ 0 = ap (λ b. one z.counted * b) n ∙ (omega arith) in omega arith))

    go : (b : Bool) → z.counted ≡ b → (0 < load zs ks r → IsLoaded zs ks r) → IsLoaded (z ∷ zs) (k ∷ ks) r
    go true e h = at (cases_lt 0 (times r k)) e h
    go false e h = later (h (let q : one z.counted * times r k ≡ 0 = ap (λ b. one b * times r k) e ∙ (omega arith) in omega arith))
