-- A list in pre-order is determined by what exists.
use Rattle.std.proofs.Common.{◌≡◌, ℕ, suc, ◌<◌, ◌⊎◌, inl, inr, List, [], ◌∷◌, refl, sym, ◌∙◌, subst, arith, Option, Some, slice_get}
use Rattle.lft_lists.proofs.Members.{Mem, mem_get, get_mem}
use Rattle.lft_resolve.{specs.Expansion.Paths.{PathBefore, IsPreOrder}, proofs.ExpansionLemmas.{Orders.before_itself, Pairs.Pairs}}

pub before_both : (p q : List ℕ) → PathBefore p q → PathBefore q p → ⊥
before_both p [] a b = a
before_both [] (k ∷ q) a b = b
before_both (j ∷ p) (k ∷ q) (inl l) (inl m) = absurd (omega arith)
before_both (j ∷ p) (k ∷ q) (inl l) (inr m) = let e : k ≡ j = m.0 in absurd (omega arith)
before_both (j ∷ p) (k ∷ q) (inr l) (inl m) = let e : j ≡ k = l.0 in absurd (omega arith)
before_both (j ∷ p) (k ∷ q) (inr l) (inr m) = before_both p q l.1 m.1

pub pairs_from : {X : Type 0} (R : X → X → Type 0) (xs : List X) → ((i j : ℕ) (x y : X) → slice_get xs i ≡ Some x → slice_get xs j ≡ Some y → i < j → R x y) → Pairs R xs
pairs_from R [] h = tt
pairs_from R (x ∷ xs) h = ((λ y m. let g = get_mem y xs m in h 0 (suc g.0) x y refl g.1 (omega arith)), pairs_from R xs (λ i j u v a b l. h (suc i) (suc j) u v a b (omega arith)))

same_lists : (xs ys : List (List ℕ)) → Pairs PathBefore xs → Pairs PathBefore ys → ((p : List ℕ) → Mem p xs → Mem p ys) → ((p : List ℕ) → Mem p ys → Mem p xs) → xs ≡ ys
same_lists [] [] a b f g = refl
same_lists [] (y ∷ ys) a b f g = absurd (g y (inl refl))
same_lists (x ∷ xs) [] a b f g = absurd (f x (inl refl))
same_lists (x ∷ xs) (y ∷ ys) a b f g =
    let e : x ≡ y = heads (f x (inl refl)) (g y (inl refl)) in
    let t : xs ≡ ys = same_lists xs ys a.1 b.1 (λ p m. tail_f e p m (f p (inr m))) (λ p m. tail_g e p m (g p (inr m))) in
    cc
  where
    heads : (y ≡ x) ⊎ Mem x ys → (x ≡ y) ⊎ Mem y xs → x ≡ y
    heads (inl e) n = sym e
    heads (inr m) (inl e) = e
    heads (inr m) (inr n) = absurd (before_both x y (a.0 y n) (b.0 x m))

    tail_f : x ≡ y → (p : List ℕ) → Mem p xs → (y ≡ p) ⊎ Mem p ys → Mem p ys
    tail_f e p m (inl q) = absurd (before_itself p (subst (λ w. PathBefore w p) (e ∙ q) (a.0 p m)))
    tail_f e p m (inr n) = n

    tail_g : x ≡ y → (p : List ℕ) → Mem p ys → (x ≡ p) ⊎ Mem p xs → Mem p xs
    tail_g e p m (inl q) = absurd (before_itself p (subst (λ w. PathBefore w p) (sym e ∙ q) (b.0 p m)))
    tail_g e p m (inr n) = n

-- so the instances of a tree are one list
pub pre_order_unique : {X : Type 0} (step : X → ℕ → Option X) (root : X) (ps qs : List (List ℕ)) → IsPreOrder step root ps → IsPreOrder step root qs → ps ≡ qs
pre_order_unique step root ps qs v w =
    same_lists ps qs (pairs_from PathBefore ps v.in_order) (pairs_from PathBefore qs w.in_order) (over ps qs v w) (over qs ps w v)
  where
    over : (xs ys : List (List ℕ)) → IsPreOrder step root xs → IsPreOrder step root ys → (p : List ℕ) → Mem p xs → Mem p ys
    over xs ys a b p m = let g = get_mem p xs m in let h = b.all p (a.each g.0 p g.1) in mem_get ys h.0 p h.1
