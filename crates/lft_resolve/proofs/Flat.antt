-- What stands in lists that are joined or numbered.
use Rattle.std.proofs.Common.{◌≡◌, ℕ, zero, suc, ◌+◌, List, [], ◌∷◌, ◌++◌, length, take, flat_map, length-append, Some, slice_get, sym, ap, subst, ◌∙◌, arith}
use Rattle.std.specs.List.{enumerate_from}
use Rattle.lft_lists.proofs.Places.{get_left, get_right, Some_same}

-- an item of the part of one stands behind the parts of those before it
pub flat_at : {X Y : Type 0} (f : X → List Y) (xs : List X) (n : ℕ) (x : X) (j : ℕ) (y : Y) → slice_get xs n ≡ Some x → slice_get (f x) j ≡ Some y → slice_get (flat_map f xs) (length (flat_map f (take n xs)) + j) ≡ Some y
flat_at f [] n x j y at is = absurd (cc)
flat_at f (z ∷ zs) zero x j y at is =
    let e : 0 + j ≡ j = omega arith in
    ap (slice_get (f z ++ flat_map f zs)) e ∙ get_left (f z) (flat_map f zs) j y (subst (λ w. slice_get (f w) j ≡ Some y) (sym (Some_same z x at)) is)
flat_at f (z ∷ zs) (suc n) x j y at is =
    let long = length-append (f z) (flat_map f (take n zs)) in
    let e : length (f z ++ flat_map f (take n zs)) + j ≡ length (f z) + (length (flat_map f (take n zs)) + j) = omega (arith, long) in
    ap (slice_get (f z ++ flat_map f zs)) e ∙ get_right (f z) (flat_map f zs) (length (flat_map f (take n zs)) + j) ∙ flat_at f zs n x j y at is

-- what is numbered is an item with its place
pub enumerated : {X : Type 0} (i : ℕ) (xs : List X) (n : ℕ) (p : ℕ × X) → slice_get (enumerate_from i xs) n ≡ Some p → (p.0 ≡ i + n) × (slice_get xs n ≡ Some p.1)
enumerated i [] n p at = absurd (cc)
enumerated i (x ∷ xs) zero p at = let e = Some_same (i, x) p at in (sym (ap (λ (q : ℕ × _). q.0) e) ∙ omega arith, ap (λ (q : ℕ × _). Some q.1) e)
enumerated i (x ∷ xs) (suc n) p at = let rest = enumerated (i + 1) xs n p at in let e = rest.0 in (omega (arith, e), rest.1)
