-- Texts of which a writer takes one piece for each item of a list.
use Rattle.std.proofs.Common.{◌≡◌, ℕ, zero, suc, ◌+◌, ◌≤◌, List, [], ◌∷◌, ◌++◌, length, take, drop, flat_map, refl, sym, ap, ◌∙◌, arith, Some, slice_get, min, Option, Bool, subst}
use Rattle.std.{specs.List.enumerate_from, proofs.lemmas.List.{append_assoc, take_all, FromFn.length-enumerate_from}}
use Rattle.lft_ir.proofs.WordsLemmas.Steps.{said_more}
use Rattle.lft_coverage.{specs.inner.Taking.TookMore, proofs.Taking.took_both}

-- the piece of one item more
pub took_one : {X : Type 0} (f : X → List ℕ) (xs : List X) (k : ℕ) (x : X) {a b c : Option (List ℕ)} {p q r : Bool} → slice_get xs k ≡ Some x → TookMore a p b q (flat_map f (take k xs)) → TookMore b q c r (f x) → TookMore a p c r (flat_map f (take (k + 1) xs))
took_one f xs k x {a} {b} {c} {p} {q} {r} e first second = subst (TookMore a p c r) (said_more f xs k x [] (flat_map f (take k xs)) (flat_map f (take k xs) ++ f x) e refl refl) (took_both first second)

-- the pieces of all items
pub took_items : {X : Type 0} (f : X → List ℕ) (xs ys : List X) {a b : Option (List ℕ)} {p q : Bool} → xs ≡ ys → TookMore a p b q (flat_map f xs) → TookMore a p b q (flat_map f ys)
took_items f xs ys {a} {b} {p} {q} e took = subst (λ zs. TookMore a p b q (flat_map f zs)) e took

-- all items
pub all_placed : {X : Type 0} (xs : List X) (n : ℕ) → length xs ≤ n → take n (enumerate_from 0 xs) ≡ enumerate_from 0 xs
all_placed xs n l = let e : length (enumerate_from 0 xs) ≡ length xs = length-enumerate_from 0 xs in take_all n (enumerate_from 0 xs) (omega arith)

-- what is left from a number on
left_placed : {X : Type 0} (n m : ℕ) (xs : List X) → drop m (enumerate_from n xs) ≡ enumerate_from (n + m) (drop m xs)
left_placed n zero xs = let j : n ≡ n + 0 = omega arith in ap (λ k. enumerate_from k xs) j
left_placed n (suc m) [] = refl
left_placed n (suc m) (x ∷ xs) = let j : (n + 1) + m ≡ n + suc m = omega arith in left_placed (n + 1) m xs ∙ ap (λ k. enumerate_from k (drop m xs)) j

-- some items more
some_more : {X : Type 0} (f : X → List ℕ) (xs : List X) (n m : ℕ) → flat_map f (take (n + m) xs) ≡ flat_map f (take n xs) ++ flat_map f (take m (drop n xs))
some_more f xs zero m = let j : 0 + m ≡ m = omega arith in ap (λ k. flat_map f (take k xs)) j
some_more f [] (suc n) zero = let j : suc n + 0 ≡ suc n = omega arith in ap (λ k. flat_map f (take k [])) j
some_more f [] (suc n) (suc m) = let j : suc n + suc m ≡ suc (n + suc m) = omega arith in ap (λ k. flat_map f (take k [])) j
some_more f (x ∷ xs) (suc n) m =
    let j : suc n + m ≡ suc (n + m) = omega arith in
    ap (λ k. flat_map f (take k (x ∷ xs))) j ∙ ap (λ w. f x ++ w) (some_more f xs n m) ∙ sym (append_assoc (f x) (flat_map f (take n xs)) (flat_map f (take m (drop n xs))))

-- the pieces of some items more, each with its number
pub took_more : {X : Type 0} (f : ℕ × X → List ℕ) (xs : List X) (n m k : ℕ) {a b c : Option (List ℕ)} {p q r : Bool} → n + m ≡ k → TookMore a p b q (flat_map f (take n (enumerate_from 0 xs))) → TookMore b q c r (flat_map f (take m (enumerate_from n (drop n xs)))) → TookMore a p c r (flat_map f (take k (enumerate_from 0 xs)))
took_more f xs n m k {a} {b} {c} {p} {q} {r} e first second =
    let all = enumerate_from 0 xs in
    let j : 0 + n ≡ n = omega arith in
    let same = ap (λ ys. flat_map f (take n all) ++ flat_map f (take m ys)) (ap (λ i. enumerate_from i (drop n xs)) (sym j) ∙ sym (left_placed 0 n xs)) ∙ sym (some_more f all n m) ∙ ap (λ i. flat_map f (take i all)) e in
    subst (TookMore a p c r) same (took_both first second)

-- numbers that reach equally far into a list take the same of it
pub take_same : {X : Type 0} (xs : List X) (n m : ℕ) → min n (length xs) ≡ min m (length xs) → take n xs ≡ take m xs
take_same [] zero zero e = refl
take_same [] zero (suc m) e = refl
take_same [] (suc n) zero e = refl
take_same [] (suc n) (suc m) e = refl
take_same (x ∷ xs) zero zero e = refl
take_same (x ∷ xs) zero (suc m) e = absurd (omega (arith, e))
take_same (x ∷ xs) (suc n) zero e = absurd (omega (arith, e))
take_same (x ∷ xs) (suc n) (suc m) e = ap (λ ys. x ∷ ys) (take_same xs n m (omega (arith, e)))
