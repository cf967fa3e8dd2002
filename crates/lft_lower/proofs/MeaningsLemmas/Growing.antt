-- Lists that grow in a loop.
use Rattle.std.proofs.Common.{◌≡◌, ℕ, zero, suc, ◌+◌, ◌≤◌, ◌⊎◌, inl, inr, max, min, List, [], ◌∷◌, ◌++◌, Some, take, length, subst, sym, ◌∙◌, ap, arith, length-append}
use Rattle.std.specs.Prelude.{slice_get}
use Rattle.std.specs.List.{All, flat_map}
use Rattle.std.proofs.lemmas.{Grind.flat_map-append, List.{append-nil, length-take, take-append-le, take_all, Elements.All-more}}
use Rattle.std.proofs.lemmas.Option.{get_or_from_slice_get, slice_get_within}
use Rattle.lft_lists.proofs.Picked.{take_next}
use Rattle.lft_lower.specs.inner.Meanings.Places.{up_to}

-- one more item
pub one_more : {X : Type 0} (xs : List X) (n : ℕ) (x : X) → slice_get xs n ≡ Some x → take (n + 1) xs ≡ take n xs ++ x ∷ []
one_more xs n x at = let next : n + 1 ≡ suc n = omega arith in ap (λ k. take k xs) next ∙ take_next xs n x at

-- what is made of one more
pub flat_next : {X Y : Type 0} (f : X → List Y) (xs : List X) (k : ℕ) (x : X) → slice_get xs k ≡ Some x → flat_map f (take (k + 1) xs) ≡ flat_map f (take k xs) ++ f x
flat_next f xs k x at =
    let next : k + 1 ≡ suc k = omega arith in
    ap (λ n. flat_map f (take n xs)) next ∙ ap (flat_map f) (take_next xs k x at) ∙ flat_map-append f (take k xs) (x ∷ []) ∙ ap (λ ys. flat_map f (take k xs) ++ ys) (append-nil (f x))

-- one more is so
pub all_next : {X : Type 0} (P : X → Type 0) (xs : List X) (k : ℕ) (x : X) → slice_get xs k ≡ Some x → All P (take k xs) → P x → All P (take (k + 1) xs)
all_next P xs k x at known one = All-more P xs k x (slice_get_within xs k x at) known (subst P (sym (get_or_from_slice_get xs k x x at)) one)

-- all are so
pub all_done : {X : Type 0} (P : X → Type 0) (xs : List X) (k : ℕ) → length xs ≤ k → All P (take k xs) → All P xs
all_done P xs k all known = subst (All P) (take_all k xs all) known

-- one of two numbers is at most the other
pub either : (m n : ℕ) → (m ≤ n) ⊎ (n ≤ m)
either zero n = inl (omega arith)
either (suc m) zero = inr (omega arith)
either (suc m) (suc n) = elim (either m n) [
  | inl less ↦ inl (omega arith)
  | inr more ↦ inr (omega arith)
]

cut_twice : {X : Type 0} (old more : List X) (most : ℕ) → most ≤ length old → take most (take most old ++ more) ≡ take most (old ++ more)
cut_twice old more most many =
    let long : length (take most old) ≡ most = omega (arith, length-take most old) in
    take-append-le most (take most old) more (omega (arith, long))
    ∙ take_all most (take most old) (omega (arith, long))
    ∙ sym (take-append-le most old more many)

not_cut : {X : Type 0} (old more : List X) (most : ℕ) → length old ≤ most → take most (take most old ++ more) ≡ take most (old ++ more)
not_cut old more most few = ap (λ xs. take most (xs ++ more)) (take_all most old few)

-- a list that is cut goes on until it has so many
pub take_on : {X : Type 0} (old more : List X) (most : ℕ) → take (max most (length (take most old))) (take most old ++ more) ≡ take most (old ++ more)
take_on old more most =
    let long : length (take most old) ≡ min most (length old) = length-take most old in
    let same : max most (length (take most old)) ≡ most = omega (arith, long) in
    ap (λ n. take n (take most old ++ more)) same ∙ elim (either most (length old)) [
      | inl many ↦ cut_twice old more most many
      | inr few ↦ not_cut old more most few
    ]

-- all of it
pub take_whole : {X : Type 0} (old more : List X) → take (max (length old + length more) (length old)) (old ++ more) ≡ old ++ more
take_whole old more = take_all (max (length old + length more) (length old)) (old ++ more) (omega (arith, length-append old more))

-- a list of what is made of each goes on
pub flat_grown : {X Y : Type 0} (f : X → List Y) (xs : List X) (k : ℕ) (x : X) (old now : List Y) → slice_get xs k ≡ Some x → old ≡ flat_map f (take k xs) → now ≡ old ++ f x → now ≡ flat_map f (take (k + 1) xs)
flat_grown f xs k x old now at so_far one = one ∙ ap (λ ys. ys ++ f x) so_far ∙ sym (flat_next f xs k x at)

-- at the end it is that of all
pub flat_all : {X Y : Type 0} (f : X → List Y) (xs : List X) (k : ℕ) (list : List Y) → length xs ≤ k → list ≡ flat_map f (take k xs) → list ≡ flat_map f xs
flat_all f xs k list all so_far = so_far ∙ ap (flat_map f) (take_all k xs all)

-- a list that is cut has what is made of one more
pub cut_next : {X Y : Type 0} (f : X → List Y) (xs : List X) (k : ℕ) (x : X) (most : ℕ) (old now : List Y) → slice_get xs k ≡ Some x → old ≡ take most (flat_map f (take k xs)) → now ≡ up_to most old (f x) → now ≡ take most (flat_map f (take (k + 1) xs))
cut_next f xs k x most old now at so_far one = one ∙ ap (λ o. up_to most o (f x)) so_far ∙ take_on (flat_map f (take k xs)) (f x) most ∙ ap (take most) (sym (flat_next f xs k x at))
