-- The number of a declaration: those of the instances before it, and its place.
use Rattle.std.proofs.Common.{◌≡◌, ℕ, zero, suc, ◌+◌, List, [], ◌∷◌, ◌++◌, length, sym, ap, ◌∙◌, subst, arith, Some, slice_get, flat_map}
use Rattle.std.specs.List.{enumerate_from}
use Rattle.lft_lists.proofs.{Mapped.{mapped, enumerate_at}, Places.{get_right, get_left}}
use Rattle.lft_tree.specs.Tree.{ReactorTree}
use Rattle.lft_program.specs.Located.{Located, Declared, declared, declared_in}

-- how many come from the first n
abbrev pub total : {X Y : Type 0} → (X → List Y) → ℕ → List X → ℕ
total f zero xs = 0
total f (suc n) [] = 0
total f (suc n) (x ∷ xs) = length (f x) + total f n xs

pub flat_at : {X Y : Type 0} (f : X → List Y) (xs : List X) (n k : ℕ) (x : X) (y : Y) → slice_get xs n ≡ Some x → slice_get (f x) k ≡ Some y → slice_get (flat_map f xs) (total f n xs + k) ≡ Some y
flat_at f [] n k x y e g = absurd (cc)
flat_at f (z ∷ xs) zero k x y e g = let q : z ≡ x = cc in let i : 0 + k ≡ k = omega arith in ap (slice_get (f z ++ flat_map f xs)) i ∙ get_left (f z) (flat_map f xs) k y (subst (λ w. slice_get (f w) k ≡ Some y) (sym q) g)
flat_at f (z ∷ xs) (suc n) k x y e g = let i : (length (f z) + total f n xs) + k ≡ length (f z) + (total f n xs + k) = omega arith in ap (slice_get (f z ++ flat_map f xs)) i ∙ get_right (f z) (flat_map f xs) (total f n xs + k) ∙ flat_at f xs n k x y e g

-- where the numbers of an instance begin
abbrev pub base : {X : Type 0} → (ReactorTree → List X) → List Located → ℕ → ℕ
base kind instances n = total (declared_in kind) n (enumerate_from 0 instances)

pub declared_at : {X : Type 0} (kind : ReactorTree → List X) (instances : List Located) (n k : ℕ) (l : Located) (x : X) → slice_get instances n ≡ Some l → slice_get (kind l.inside.reactor) k ≡ Some x → slice_get (declared kind instances) (base kind instances n + k) ≡ Some (record { instance = n; located = l; place = k; item = x })
declared_at {X} kind instances n k l x e f =
    let a : slice_get (enumerate_from 0 instances) n ≡ Some (0 + n, l) = enumerate_at 0 instances n l e in
    let z : 0 + n ≡ n = omega arith in
    let y : 0 + k ≡ k = omega arith in
    let b : slice_get (enumerate_from 0 (kind l.inside.reactor)) k ≡ Some (0 + k, x) = enumerate_at 0 (kind l.inside.reactor) k x f in
    let P : ℕ × X → Declared X = λ d. record { instance = n; located = l; place = d.0; item = d.1 } in
    flat_at (declared_in kind) (enumerate_from 0 instances) n k (n, l) (record { instance = n; located = l; place = k; item = x })
    (a ∙ ap (λ w. Some (w, l)) z)
    (mapped P (enumerate_from 0 (kind l.inside.reactor)) k (k, x) (b ∙ ap (λ w. Some (w, x)) y))
