-- Paths that exist are no more than those in the list of the instances.
use Rattle.std.proofs.Common.{◌≡◌, ℕ, suc, ◌≤◌, inl, inr, List, [], ◌∷◌, length, refl, sym, ap, ◌∙◌, arith, Option, Some, slice_get}
use Rattle.lft_lists.proofs.Members.{Mem, mem_get, get_mem}
use Rattle.lft_resolve.specs.{Expansion.Paths.{Exists, IsPreOrder, IsMoreThan}, inner.Expansion.Contents.{contained, IsWalk}}
use Rattle.lft_resolve.specs.declared.expansion.walk.{Contents.Contents, Instance.Instance}

-- x taken out of ys
abbrev pub without : {X : Type 0} (x : X) (ys : List X) → Mem x ys → List X
without x [] m = []
without x (y ∷ ys) (inl e) = ys
without x (y ∷ ys) (inr m) = y ∷ without x ys m

length_without : {X : Type 0} (x : X) (ys : List X) (m : Mem x ys) → length ys ≡ suc (length (without x ys m))
length_without x [] m = absurd m
length_without x (y ∷ ys) (inl e) = refl
length_without x (y ∷ ys) (inr m) = ap suc (length_without x ys m)

mem_without : {X : Type 0} (x z : X) (ys : List X) (m : Mem x ys) → Mem z ys → (x ≡ z → ⊥) → Mem z (without x ys m)
mem_without x z [] m k n = absurd m
mem_without x z (y ∷ ys) (inl e) (inl f) n = absurd (n (sym e ∙ f))
mem_without x z (y ∷ ys) (inl e) (inr k) n = k
mem_without x z (y ∷ ys) (inr m) (inl f) n = inl f
mem_without x z (y ∷ ys) (inr m) (inr k) n = inr (mem_without x z ys m k n)

-- a list without repetition whose elements all stand in another is no longer
pub no_longer : {X : Type 0} (xs ys : List X) → ((i j : ℕ) (x : X) → slice_get xs i ≡ Some x → slice_get xs j ≡ Some x → i ≡ j) → ((x : X) → Mem x xs → Mem x ys) → length xs ≤ length ys
no_longer [] ys d m = omega arith
no_longer {X} (x ∷ xs) ys d m =
    let h : Mem x ys = m x (inl refl) in
    let rest : length xs ≤ length (without x ys h) = no_longer xs (without x ys h) (λ i j z a b. let e : suc i ≡ suc j = d (suc i) (suc j) z a b in omega arith) (λ z k. mem_without x z ys h (m z (inr k)) (λ e. differ z k e)) in
    let l = length_without x ys h in
    omega arith
  where
    differ : (z : X) → Mem z xs → x ≡ z → ⊥
    differ z k e = let g = get_mem z xs k in let f : 0 ≡ suc g.0 = d 0 (suc g.0) z (ap Some e) g.1 in omega arith

pub not_more : {X : Type 0} (step : X → ℕ → Option X) (root : X) (paths : List (List ℕ)) (limit : ℕ) → IsPreOrder step root paths → length paths ≤ limit → IsMoreThan (Exists step root) limit → ⊥
not_more step root paths limit w l m =
    let n = no_longer m.some paths m.distinct (λ p k. let g = get_mem p m.some k in let e = m.each g.0 p g.1 in let a = w.all p e in mem_get paths a.0 p a.1) in
    let o = m.more in
    omega arith

-- the instances of a walk within the limit leave no room for the cause
pub walk_not_more : (table : List Contents) (main : ℕ) (made : List Instance) → IsWalk table main made → length made ≤ 10000 → IsMoreThan (Exists (contained table) main) 10000 → ⊥
walk_not_more table main made w l m = not_more (contained table) main w.paths 10000 w.in_order (let s = w.as_long in omega arith) m
