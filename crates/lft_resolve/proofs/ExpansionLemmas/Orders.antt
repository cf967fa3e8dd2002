-- The order of paths, and the list that the walk makes.
use Rattle.std.proofs.Common.{◌≡◌, ℕ, zero, suc, ◌+◌, ◌<◌, ◌≤◌, ◌⊎◌, inl, inr, List, [], ◌∷◌, ◌++◌, refl, sym, ap, ◌∙◌, subst, arith, Option, Some, None, append_assoc, append-nil}
use Rattle.std.{proofs.lemmas.Bool.cases_lt, specs.Option.option_and_then}
use Rattle.lft_lists.proofs.Members.{Mem, mem_get, get_mem, mem_left, mem_right, mem_cases}
use Rattle.lft_resolve.{specs.Expansion.Paths.{along, PathBefore, Exists, IsPreOrder}, proofs.ExpansionLemmas.Pairs.{Pairs, pairs_append, pairs_at}}

-- p and q part, and p goes to the earlier place
abbrev pub Apart : List ℕ → List ℕ → Type 0
Apart [] q = ⊥
Apart (j ∷ p) [] = ⊥
Apart (j ∷ p) (k ∷ q) = (j < k) ⊎ ((j ≡ k) × Apart p q)

pub apart_before : (p q : List ℕ) → Apart p q → PathBefore p q
apart_before [] q a = absurd a
apart_before (j ∷ p) [] a = absurd a
apart_before (j ∷ p) (k ∷ q) (inl l) = inl l
apart_before (j ∷ p) (k ∷ q) (inr e) = inr (e.0, apart_before p q e.1)

pub apart_longer : (p q r : List ℕ) → Apart p q → Apart (p ++ r) q
apart_longer [] q r a = absurd a
apart_longer (j ∷ p) [] r a = absurd a
apart_longer (j ∷ p) (k ∷ q) r (inl l) = inl l
apart_longer (j ∷ p) (k ∷ q) r (inr e) = inr (e.0, apart_longer p q r e.1)

pub apart_kids : (p : List ℕ) (j k : ℕ) → j < k → Apart (p ++ j ∷ []) (p ++ k ∷ [])
apart_kids [] j k l = inl l
apart_kids (i ∷ p) j k l = inr (refl, apart_kids p j k l)

pub before_longer : (m p r : List ℕ) → PathBefore m p → PathBefore m (p ++ r)
before_longer m [] r b = absurd b
before_longer [] (k ∷ p) r b = tt
before_longer (j ∷ m) (k ∷ p) r (inl l) = inl l
before_longer (j ∷ m) (k ∷ p) r (inr e) = inr (e.0, before_longer m p r e.1)

pub before_kid : (p : List ℕ) (k : ℕ) → PathBefore p (p ++ k ∷ [])
before_kid [] k = tt
before_kid (j ∷ p) k = inr (refl, before_kid p k)

pub before_itself : (p : List ℕ) → PathBefore p p → ⊥
before_itself [] b = b
before_itself (k ∷ p) (inl l) = absurd (omega arith)
before_itself (k ∷ p) (inr e) = before_itself p e.1

pub along_append : {X : Type 0} (step : X → ℕ → Option X) (x : X) (p q : List ℕ) → along step x (p ++ q) ≡ option_and_then (λ y. along step y q) (along step x p)
along_append step x [] q = refl
along_append {X} step x (k ∷ p) q = go (step x k) (λ y. along_append step y p q)
  where
    go : (o : Option X) → ((y : X) → along step y (p ++ q) ≡ option_and_then (λ y. along step y q) (along step y p)) → option_and_then (λ y. along step y (p ++ q)) o ≡ option_and_then (λ y. along step y q) (option_and_then (λ y. along step y p) o)
    go None rest = refl
    go (Some y) rest = rest y

pub along_at : {X : Type 0} (step : X → ℕ → Option X) (x y : X) (p q : List ℕ) → along step x p ≡ Some y → along step x (p ++ q) ≡ along step y q
along_at step x y p q e = along_append step x p q ∙ ap (option_and_then (λ z. along step z q)) e

-- one step more
pub along_kid : {X : Type 0} (step : X → ℕ → Option X) (x y z : X) (p : List ℕ) (k : ℕ) → along step x p ≡ Some y → step y k ≡ Some z → along step x (p ++ k ∷ []) ≡ Some z
along_kid step x y z p k e f = along_at step x y p (k ∷ []) e ∙ ap (option_and_then (λ w. along step w [])) f

-- the paths one step longer than p, by n places from k on
abbrev pub kids : List ℕ → ℕ → ℕ → List (List ℕ)
kids p k zero = []
kids p k (suc n) = (p ++ k ∷ []) ∷ kids p (suc k) n

pub kid_of : (q p : List ℕ) (k n : ℕ) → Mem q (kids p k n) → (j : ℕ) × (k ≤ j) × (j < k + n) × (p ++ j ∷ [] ≡ q)
kid_of q p k zero m = absurd m
kid_of q p k (suc n) (inl e) = (k, omega arith, omega arith, e)
kid_of q p k (suc n) (inr m) = let r = kid_of q p (suc k) n m in let a : suc k ≤ r.0 = r.1 in let b : r.0 < suc k + n = r.2 in (r.0, omega arith, omega arith, r.3)

below_or_same : (k j : ℕ) → k ≤ j → (k < j) ⊎ (k ≡ j)
below_or_same k j l = elim (cases_lt k j) [ inl a ↦ inl a | inr b ↦ inr (omega arith) ]

pub mem_kids : (p : List ℕ) (j k n : ℕ) → k ≤ j → j < k + n → Mem (p ++ j ∷ []) (kids p k n)
mem_kids p j k zero a b = absurd (omega arith)
mem_kids p j k (suc n) a b = go (below_or_same k j a) (λ l. mem_kids p j (suc k) n l (omega arith))
  where
    go : (k < j) ⊎ (k ≡ j) → (suc k ≤ j → Mem (p ++ j ∷ []) (kids p (suc k) n)) → Mem (p ++ j ∷ []) ((p ++ k ∷ []) ∷ kids p (suc k) n)
    go (inr e) rest = inl (ap (λ i. p ++ i ∷ []) e)
    go (inl l) rest = inr (rest (omega arith))

pub pairs_kids : (p : List ℕ) (k n : ℕ) → Pairs Apart (kids p k n)
pairs_kids p k zero = tt
pairs_kids p k (suc n) = (later, pairs_kids p (suc k) n)
  where
    later : (q : List ℕ) → Mem q (kids p (suc k) n) → Apart (p ++ k ∷ []) q
    later q m = let r = kid_of q p (suc k) n m in let a : suc k ≤ r.0 = r.1 in subst (λ w. Apart (p ++ k ∷ []) w) r.3 (apart_kids p k r.0 (omega arith))

-- what is made so far, in order, and where the rest begins: each path yet to come is one of the pending, or inside one
pub record Halfway {X : Type 0} (step : X → ℕ → Option X) (root : X) (made pending : List (List ℕ)) : Type 0 where
  pub order : Pairs PathBefore made
  pub ahead : (m q : List ℕ) → Mem m made → Mem q pending → PathBefore m q
  pub apart : Pairs Apart pending
  pub made_exist : (m : List ℕ) → Mem m made → Exists step root m
  pub pending_exist : (q : List ℕ) → Mem q pending → Exists step root q
  pub covered : (p : List ℕ) → Exists step root p → Mem p made ⊎ ((q : List ℕ) × (rest : List ℕ) × Mem q pending × (q ++ rest ≡ p))

-- the step from x goes on at the first n places, and at no other
pub record HasKids {X : Type 0} (step : X → ℕ → Option X) (x : X) (n : ℕ) : Type 0 where
  pub there : (k : ℕ) → k < n → (y : X) × (step x k ≡ Some y)
  pub within : (k : ℕ) (y : X) → step x k ≡ Some y → k < n

pub halfway_start : {X : Type 0} (step : X → ℕ → Option X) (root : X) → Halfway step root [] ([] ∷ [])
halfway_start step root = record {
  order = tt;
  ahead = λ m q a b. absurd a;
  apart = ((λ y m. absurd m), tt);
  made_exist = λ m a. absurd a;
  pending_exist = λ q m. elim m [ inl e ↦ (root, ap (along step root) (sym e)) | inr a ↦ absurd a ];
  covered = λ p e. inr ([], p, inl refl, refl);
}

-- the first of the pending is made, and the paths one step longer stand in its place
pub halfway_turn : {X : Type 0} (step : X → ℕ → Option X) (root x : X) (made later : List (List ℕ)) (p : List ℕ) (n : ℕ) → Halfway step root made (p ∷ later) → along step root p ≡ Some x → HasKids step x n → Halfway step root (made ++ p ∷ []) (kids p 0 n ++ later)
halfway_turn {X} step root x made later p n h e has = record {
  order = pairs_append PathBefore made (p ∷ []) h.order ((λ y m. absurd m), tt) (λ u v a b. elim b [ inl f ↦ subst (λ w. PathBefore u w) f (h.ahead u p a (inl refl)) | inr z ↦ absurd z ]);
  ahead = λ m q a b. ahead m q (mem_cases m made (p ∷ []) a) (mem_cases q (kids p 0 n) later b);
  apart = pairs_append Apart (kids p 0 n) later (pairs_kids p 0 n) h.apart.1 (λ u v a b. let r = kid_of u p 0 n a in subst (λ w. Apart w v) r.3 (apart_longer p v (r.0 ∷ []) (h.apart.0 v b)));
  made_exist = λ m a. elim (mem_cases m made (p ∷ []) a) [ inl b ↦ h.made_exist m b | inr b ↦ elim b [ inl f ↦ (x, ap (along step root) (sym f) ∙ e) | inr z ↦ absurd z ] ];
  pending_exist = λ q a. pending q (mem_cases q (kids p 0 n) later a);
  covered = λ q ex. covered q ex (h.covered q ex);
}
  where
    ahead : (m q : List ℕ) → Mem m made ⊎ Mem m (p ∷ []) → Mem q (kids p 0 n) ⊎ Mem q later → PathBefore m q
    ahead m q (inl a) (inl b) = let r = kid_of q p 0 n b in subst (λ w. PathBefore m w) r.3 (before_longer m p (r.0 ∷ []) (h.ahead m p a (inl refl)))
    ahead m q (inl a) (inr b) = h.ahead m q a (inr b)
    ahead m q (inr (inl f)) (inl b) = let r = kid_of q p 0 n b in subst (λ w. PathBefore w q) f (subst (λ w. PathBefore p w) r.3 (before_kid p r.0))
    ahead m q (inr (inl f)) (inr b) = subst (λ w. PathBefore w q) f (apart_before p q (h.apart.0 q b))
    ahead m q (inr (inr z)) b = absurd z

    pending : (q : List ℕ) → Mem q (kids p 0 n) ⊎ Mem q later → Exists step root q
    pending q (inl b) = let r = kid_of q p 0 n b in let l : r.0 < 0 + n = r.2 in let y = has.there r.0 (omega arith) in (y.0, ap (along step root) (sym r.3) ∙ along_kid step root x y.0 p r.0 e y.1)
    pending q (inr b) = h.pending_exist q (inr b)

    Covered : List ℕ → Type 0
    Covered q = Mem q (made ++ p ∷ []) ⊎ ((f : List ℕ) × (rest : List ℕ) × Mem f (kids p 0 n ++ later) × (f ++ rest ≡ q))

    inside : (q : List ℕ) (rest : List ℕ) → Exists step root q → p ++ rest ≡ q → Covered q
    inside q [] ex f = inl (mem_right q made (p ∷ []) (inl (sym (append-nil p) ∙ f)))
    inside q (k ∷ rest) ex f = inr (p ++ k ∷ [], rest, mem_left (p ++ k ∷ []) (kids p 0 n) later (mem_kids p k 0 n (omega arith) (let l : k < n = steps (step x k) refl in omega arith)), append_assoc p (k ∷ []) rest ∙ f)
      where
        leads : along step x (k ∷ rest) ≡ Some ex.0
        leads = sym (along_at step root x p (k ∷ rest) e) ∙ ap (along step root) f ∙ ex.1

        steps : (o : Option X) → step x k ≡ o → k < n
        steps None g = absurd (let z : option_and_then (λ y. along step y rest) (step x k) ≡ Some ex.0 = leads in let w : option_and_then (λ y. along step y rest) None ≡ Some ex.0 = subst (λ o. option_and_then (λ y. along step y rest) o ≡ Some ex.0) g z in cc)
        steps (Some y) g = has.within k y g

    covered : (q : List ℕ) → Exists step root q → Mem q made ⊎ ((f : List ℕ) × (rest : List ℕ) × Mem f (p ∷ later) × (f ++ rest ≡ q)) → Covered q
    covered q ex (inl a) = inl (mem_left q made (p ∷ []) a)
    covered q ex (inr (f, rest, inl g, e2)) = inside q rest ex (ap (λ w. w ++ rest) g ∙ e2)
    covered q ex (inr (f, rest, inr m, e2)) = inr (f, rest, mem_right f (kids p 0 n) later m, e2)

-- with nothing pending, what is made is all there is
pub halfway_end : {X : Type 0} (step : X → ℕ → Option X) (root : X) (made : List (List ℕ)) → Halfway step root made [] → IsPreOrder step root made
halfway_end {X} step root made h = record {
  in_order = λ i j p q a b l. pairs_at PathBefore made h.order i j p q a b l;
  each = λ i p a. h.made_exist p (mem_get made i p a);
  all = λ p ex. get_mem p made (elim (h.covered p ex) [ inl m ↦ m | inr r ↦ absurd r.2 ]);
}
