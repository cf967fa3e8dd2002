-- Reading a number digit by digit.
use Rattle.std.proofs.Common.{◌≡◌, ℕ, suc, ◌+◌, ◌-◌, ◌*◌, ◌^◌, ◌<◌, ◌≤◌, List, [], ◌∷◌, length, get_or, drop, Bool, true, false, Option, Some, None, refl, arith, rules, add-one, nat_le}
use Rattle.std.specs.Prelude.{◌&&◌, if◌then◌else◌}
use Rattle.std.specs.{Char.is_ascii_digit, List.list_all}
use Rattle.std.proofs.{Math.{Nat.{pow-le-pow_right, pow-suc}, Seq.drop-cons, ListN.drop_of_length-le}, lemmas.Bool.{lt-leb, Decides.nat_tests}}
use Rattle.lft_trace.specs.Numbers.{digits_after, number}

-- what the digits that are left make of the number so far
abbrev pub number_after : ℕ → ℕ → List ℕ → Option ℕ
number_after limit n ds = if list_all is_ascii_digit ds && nat_le (digits_after n ds) limit then Some (digits_after n ds) else None

pub grows : (ds : List ℕ) (n : ℕ) → n ≤ digits_after n ds
grows [] n = omega arith
grows (d ∷ ds) n = let h = grows ds (n * 10 + (d - 48)) in omega (arith, h)

first : (limit : ℕ) (field : List ℕ) → 0 < length field → number_after limit 0 field ≡ number limit field
first limit [] h = absurd (omega arith)
first limit (d ∷ ds) h = refl

pub start : (limit : ℕ) (field : List ℕ) → 0 < length field → number_after limit 0 (drop 0 field) ≡ number limit field
start limit field h = first limit field h

one : (limit n d : ℕ) (ds : List ℕ) → is_ascii_digit d ≡ true → number_after limit n (d ∷ ds) ≡ number_after limit (n * 10 + (d - 48)) ds
one limit n d ds e = rw e refl

pub step : (limit n i : ℕ) (field : List ℕ) → i < length field → is_ascii_digit (get_or field i 0) ≡ true → number_after limit n (drop i field) ≡ number_after limit (n * 10 + (get_or field i 0 - 48)) (drop (i + 1) field)
step limit n i field h e = rw (add-one, drop-cons field i 0) (one limit n (get_or field i 0) (drop (suc i) field) e)

other : (limit n d : ℕ) (ds : List ℕ) → is_ascii_digit d ≡ false → number_after limit n (d ∷ ds) ≡ None
other limit n d ds e = rw e refl

pub no_digit : (limit n i : ℕ) (field : List ℕ) → i < length field → is_ascii_digit (get_or field i 0) ≡ false → number_after limit n (drop i field) ≡ None
no_digit limit n i field h e = rw (drop-cons field i 0) (other limit n (get_or field i 0) (drop (suc i) field) e)

over : (b : Bool) (limit n : ℕ) → limit < n → (if b && nat_le n limit then Some n else None) ≡ None
over true limit n h = let e : nat_le n limit ≡ false = lt-leb n limit h in rw e refl
over false limit n h = refl

pub too_large : (limit n : ℕ) (ds : List ℕ) → limit < n → number_after limit n ds ≡ None
too_large limit n ds h = let g = grows ds n in over (list_all is_ascii_digit ds) limit (digits_after n ds) (omega (arith, g))

all_read : (limit n : ℕ) → n ≤ limit → number_after limit n [] ≡ Some n
all_read limit n h = let e : nat_le n limit ≡ true = search rules in rw e refl

pub done : (limit n i : ℕ) (field : List ℕ) → length field ≤ i → n ≤ limit → number_after limit n (drop i field) ≡ Some n
done limit n i field h le = rw (drop_of_length-le field h) (all_read limit n le)

pub is_small : (d : ℕ) → is_ascii_digit d ≡ true → (48 ≤ d) × (d ≤ 57)
is_small d e = grind (arith, nat_tests)

-- 18 digits and one more fit a u64
pub room : (i n : ℕ) → i < 19 → n < 10 ^ i → n < 1000000000000000000
room i n h small = let p : 10 ^ i ≤ 10 ^ 18 = pow-le-pow_right {n = 10} (omega arith) {i = i} {j = 18} (omega arith) in omega (arith, p)

-- one more digit makes the number ten times as large at most
pub grown : (i n d : ℕ) → n < 10 ^ i → d ≤ 57 → n * 10 + (d - 48) < 10 ^ (i + 1)
grown i n d small digit = rw (add-one, pow-suc) (omega arith)
