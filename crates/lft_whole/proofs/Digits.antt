-- The number that digits write to a base.
use Rattle.std.proofs.Common.{◌≡◌, ℕ, ◌+◌, ◌-◌, ◌*◌, ◌/◌, ◌<◌, ◌≤◌, min, List, [], ◌∷◌, length, get_or, sym, ap, ◌∙◌, arith}
use Rattle.std.specs.Prelude.{slice_range}
use Rattle.std.proofs.Math.Nat.{mul-le-mul_left, div-lt_iff_lt-mul}
use Rattle.lft_syntax.proofs.Numbers.{range_cons}
use Rattle.lft_whole.specs.Pieces.{digit_value, digits_from}

times_more : (n base : ℕ) → 0 < base → n ≤ n * base
times_more n base some = let one : 1 ≤ base = some in let h = mul-le-mul_left n one in omega (arith, h)

pub digits_grow : (base : ℕ) (ds : List ℕ) (n : ℕ) → 0 < base → n ≤ digits_from base n ds
digits_grow base [] n some = omega arith
digits_grow base (d ∷ ds) n some =
    let h = digits_grow base ds (n * base + digit_value d) some in
    let m = times_more n base some in
    omega (arith, h, m)

-- one more digit is read
pub digits_step : (base : ℕ) (t : List ℕ) (i j n d : ℕ) → i < j → j ≤ length t → d ≡ digit_value (get_or t i 0) → digits_from base n (slice_range t i j) ≡ digits_from base (n * base + d) (slice_range t (i + 1) j)
digits_step base t i j n d lt le digit = ap (digits_from base n) (range_cons t i j lt le) ∙ ap (λ (x : ℕ). digits_from base (n * base + x) (slice_range t (i + 1) j)) (sym digit)

-- a number that is too large with its next digit stays so
pub digits_large : (base : ℕ) (t : List ℕ) (i j n v limit d : ℕ) → i < j → j ≤ length t → 0 < base → digits_from base n (slice_range t i j) ≡ v → d ≡ digit_value (get_or t i 0) → (limit - d) / base < n → limit ≡ min v limit
digits_large base t i j n v limit d lt le some e digit large =
    let over : limit - d < n * base = (div-lt_iff_lt-mul some).0 large in
    let more = digits_grow base (slice_range t (i + 1) j) (n * base + d) some in
    let step = digits_step base t i j n d lt le digit in
    omega (arith, over, more, step, e)
