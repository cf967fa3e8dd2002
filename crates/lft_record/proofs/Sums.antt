-- Sums that wrap on the way are the sum that wraps at the end.
use Rattle.std.proofs.Common.{◌≡◌, ◌∙◌, ◌+◌, ◌%◌, ◌<◌, ◌^◌, add-one, FitsSigned, ℕ, ℤ, pos, List, [], ◌∷◌, ◌++◌, map, take, Some, slice_get, sym, ap}
use Rattle.std.specs.Prelude.{◌+ℤ◌}
use Rattle.std.proofs.Math.{IntN.{+ℤ_assoc, +ℤ_comm}, Nat.mod-eq_of_lt}
use Rattle.std.proofs.lemmas.{List.map-append, Int.{int_wrap-add_left, int_wrap-add_right, wrapping_add_onto}}
use Rattle.std.specs.Int.{int_wrap, cast_signed, cast_unsigned, w64}
use Rattle.lft_lists.proofs.Picked.{take_next}
use Rattle.lft_record.specs.{Expressions.total, declared.cards.expression.Summand.Summand}

pub wrap_natural : (n : ℕ) → n < 2 ^ 64 → int_wrap w64 (pos n) ≡ cast_signed w64 n
unfolding int_wrap
wrap_natural n h = ap (cast_signed w64) (mod-eq_of_lt h)

pub total_push : (xs : List ℤ) (x : ℤ) → total (xs ++ (x ∷ [])) ≡ total xs +ℤ x
total_push [] x = +ℤ_comm x (pos 0)
total_push (y ∷ xs) x = ap (λ t. y +ℤ t) (total_push xs x) ∙ sym (+ℤ_assoc y (total xs) x)

-- one term more of a sum that is kept as the bits of an i64
pub sum_next : (f : Summand → ℤ) (terms : List Summand) (at m : ℕ) (v : ℤ) (t : Summand) → m < 2 ^ 64 → FitsSigned w64 v → cast_signed w64 m ≡ int_wrap w64 (total (map f (take at terms))) → v ≡ int_wrap w64 (f t) → slice_get terms at ≡ Some t
    → cast_signed w64 ((m + cast_unsigned w64 v) % 2 ^ 64) ≡ int_wrap w64 (total (map f (take (at + 1) terms)))
sum_next f terms at m v t small fits sum is here =
    let so_far = total (map f (take at terms)) in
    let more : take (at + 1) terms ≡ take at terms ++ (t ∷ []) = rw add-one (take_next terms at t here) in
    let all : total (map f (take (at + 1) terms)) ≡ so_far +ℤ f t = ap (λ (ts : List Summand). total (map f ts)) more ∙ ap total (map-append f (take at terms) (t ∷ [])) ∙ total_push (map f (take at terms)) (f t) in
    wrapping_add_onto w64 m v small fits ∙ ap (λ z. int_wrap w64 (z +ℤ v)) sum ∙ ap (λ z. int_wrap w64 (int_wrap w64 so_far +ℤ z)) is
    ∙ int_wrap-add_left w64 so_far (int_wrap w64 (f t)) ∙ int_wrap-add_right w64 so_far (f t) ∙ ap (int_wrap w64) (sym all)
