-- The number that digits write.
use Rattle.std.proofs.Common.{◌≡◌, ℕ, suc, ◌+◌, ◌-◌, ◌*◌, ◌^◌, ◌<◌, ◌≤◌, List, [], ◌∷◌, length, get_or, take, drop, sym, ap, ◌∙◌, arith, add-one}
use Rattle.std.{specs.List.{fold, slice_range}, proofs.Math.Seq.drop-cons}

-- the number that these digits write after the number n
abbrev pub value_from : ℕ → List ℕ → ℕ
value_from n ds = fold (λ m digit. m * 10 + (digit - 48)) n ds

pub value_grows : (ds : List ℕ) (n : ℕ) → n ≤ value_from n ds
value_grows [] n = omega arith
value_grows (d ∷ ds) n = let h = value_grows ds (n * 10 + (d - 48)) in omega (arith, h)

pub range_cons : (t : List ℕ) (i j : ℕ) → i < j → j ≤ length t → slice_range t i j ≡ get_or t i 0 ∷ slice_range t (i + 1) j
range_cons t i j lt le =
    let inside : i < length t = omega arith in
    let k : j - i ≡ suc (j - (i + 1)) = omega arith in
    ap (λ (n : ℕ). take n (drop i t)) k ∙ ap (take (suc (j - (i + 1)))) (drop-cons t i 0 inside) ∙ ap (λ (n : ℕ). get_or t i 0 ∷ take (j - (i + 1)) (drop n t)) (sym (add-one i))

pub value_step : (t : List ℕ) (i j n : ℕ) → i < j → j ≤ length t → value_from n (slice_range t i j) ≡ value_from (n * 10 + (get_or t i 0 - 48)) (slice_range t (i + 1) j)
value_step t i j n lt le = ap (value_from n) (range_cons t i j lt le)

pub value_large : (t : List ℕ) (i j n v : ℕ) → i < j → j ≤ length t → value_from n (slice_range t i j) ≡ v → 2 ^ 64 ≤ n * 10 + (get_or t i 0 - 48) → 2 ^ 64 ≤ v
value_large t i j n v lt le e large = let h = value_grows (slice_range t (i + 1) j) (n * 10 + (get_or t i 0 - 48)) in let s = value_step t i j n lt le in omega (arith, h, s, e)
