-- The things of instances, counted and listed.
use Rattle.std.proofs.Common.{◌≡◌, ℕ, zero, suc, ◌+◌, ◌<◌, ◌≤◌, ◌⊎◌, inl, inr, List, [], ◌∷◌, ◌++◌, length, refl, sym, ap, ◌∙◌, subst, arith, Some, slice_get, take, length-append, add-one}
use Rattle.std.proofs.lemmas.{Bool.cases_lt, Option.slice_get_within}
use Rattle.lft_lists.proofs.{Places.{get_there, get_push_cases}, Members.{Mem, mem_get, get_mem, mem_left, mem_right, mem_cases}}
use Rattle.lft_resolve.specs.{declared.expansion.walk.{Contents.Contents, Instance.Instance}, Expansion.Paths.{PathBefore, IsMoreThan}}
use Rattle.lft_resolve.specs.inner.Expansion.{Contents.IsWalk, Numbers.{count_of_things, things, IsThingByPath}}
use Rattle.lft_resolve.proofs.ExpansionLemmas.{Orders.before_itself, Limits.no_longer, Unique.pairs_from, Pairs.{Pairs, pairs_append, pairs_at}}

-- one instance more
pub things_more : (counts : List ℕ) (instances : List Instance) (n : ℕ) (i : Instance) → slice_get instances n ≡ Some i → things counts (take (n + 1) instances) ≡ things counts (take n instances) + count_of_things counts i.reactor
things_more counts [] n i e = absurd (cc)
things_more counts (j ∷ js) zero i e = let q : j ≡ i = cc in let r : count_of_things counts j.reactor ≡ count_of_things counts i.reactor = ap (λ x. count_of_things counts x.reactor) q in omega arith
things_more counts (j ∷ js) (suc n) i e = let r : things counts (take (suc n) js) ≡ things counts (take n js) + count_of_things counts i.reactor = subst (λ k. things counts (take k js) ≡ things counts (take n js) + count_of_things counts i.reactor) (add-one n) (things_more counts js n i e) in let s : things counts (take (suc (suc n)) (j ∷ js)) ≡ count_of_things counts j.reactor + things counts (take (suc n) js) = refl in rw (add-one (suc n)) (omega arith)

pub things_all : (counts : List ℕ) (instances : List Instance) → things counts (take (length instances) instances) ≡ things counts instances
things_all counts [] = refl
things_all counts (j ∷ js) = ap (λ k. count_of_things counts j.reactor + k) (things_all counts js)

pub things_some : (counts : List ℕ) (instances : List Instance) (n : ℕ) → things counts (take n instances) ≤ things counts instances
things_some counts instances zero = omega arith
things_some counts [] (suc n) = omega arith
things_some counts (j ∷ js) (suc n) = let r = things_some counts js n in omega arith

-- the numbers of the first instances
pub record Numbering (counts : List ℕ) (instances : List Instance) (firsts : List ℕ) (number total : ℕ) : Type 0 where
  pub as_long : length firsts ≡ number
  pub so_far : total ≡ things counts (take number instances)
  pub each : (n first : ℕ) → slice_get firsts n ≡ Some first → first ≡ things counts (take n instances)

pub numbering_more : (counts : List ℕ) (instances : List Instance) (firsts : List ℕ) (number total : ℕ) (i : Instance) → Numbering counts instances firsts number total → slice_get instances number ≡ Some i → Numbering counts instances (firsts ++ total ∷ []) (number + 1) (total + count_of_things counts i.reactor)
numbering_more counts instances firsts number total i w e = record {
  as_long = length-append firsts (total ∷ []) ∙ ap (λ k. k + 1) w.as_long;
  so_far = ap (λ k. k + count_of_things counts i.reactor) w.so_far ∙ sym (things_more counts instances number i e);
  each = λ n first f. elim (get_push_cases firsts total n first f) [ inl a ↦ w.each n first a | inr a ↦ sym a.1 ∙ w.so_far ∙ ap (λ k. things counts (take k instances)) (sym (a.0 ∙ w.as_long)) ];
}

pub numbering_total : (counts : List ℕ) (instances : List Instance) (firsts : List ℕ) (number total : ℕ) → Numbering counts instances firsts number total → number ≡ length instances → total ≡ things counts instances
numbering_total counts instances firsts number total w e = w.so_far ∙ ap (λ k. things counts (take k instances)) e ∙ things_all counts instances

pub numbering_passed : (counts : List ℕ) (instances : List Instance) (firsts : List ℕ) (number total limit : ℕ) (i : Instance) → Numbering counts instances firsts number total → slice_get instances number ≡ Some i → limit < total + count_of_things counts i.reactor → limit < things counts instances
numbering_passed counts instances firsts number total limit i w e l =
    let a = things_more counts instances number i e in
    let b = things_some counts instances (number + 1) in
    let s = w.so_far in
    omega arith

-- the things of one instance
abbrev pub things_at : List ℕ → ℕ → List (List ℕ × ℕ)
things_at path zero = []
things_at path (suc n) = (path, n) ∷ things_at path n

-- the things of all
abbrev pub all_things : List ℕ → List Instance → List (List ℕ) → List (List ℕ × ℕ)
all_things counts [] paths = []
all_things counts (i ∷ is) [] = []
all_things counts (i ∷ is) (p ∷ ps) = things_at p (count_of_things counts i.reactor) ++ all_things counts is ps

length_at : (path : List ℕ) (n : ℕ) → length (things_at path n) ≡ n
length_at path zero = refl
length_at path (suc n) = ap suc (length_at path n)

length_things : (counts : List ℕ) (instances : List Instance) (paths : List (List ℕ)) → length instances ≡ length paths → length (all_things counts instances paths) ≡ things counts instances
length_things counts [] paths e = refl
length_things counts (i ∷ is) [] e = absurd (omega arith)
length_things counts (i ∷ is) (p ∷ ps) e = let a = length_things counts is ps (omega arith) in let b = length_at p (count_of_things counts i.reactor) in let c = length-append (things_at p (count_of_things counts i.reactor)) (all_things counts is ps) in omega arith

mem_at : (path : List ℕ) (n : ℕ) (x : List ℕ × ℕ) → Mem x (things_at path n) → (path ≡ x.0) × (x.1 < n)
mem_at path zero x m = absurd m
mem_at path (suc n) x (inl e) = (ap (λ y. y.0) e, let q : n ≡ x.1 = ap (λ y. y.1) e in omega arith)
mem_at path (suc n) x (inr m) = let r = mem_at path n x m in let l : x.1 < n = r.1 in (r.0, omega arith)

at_mem : (path : List ℕ) (n k : ℕ) → k < n → Mem (path, k) (things_at path n)
at_mem path zero k l = absurd (omega arith)
at_mem path (suc n) k l = elim (cases_lt k n) [ inl a ↦ inr (at_mem path n k a) | inr b ↦ inl (let q : n ≡ k = omega arith in ap (λ j. (path, j)) q) ]

-- a thing of the list is that of an instance and its path
abbrev pub Listed : List ℕ → List Instance → List (List ℕ) → List ℕ × ℕ → Type 0
Listed counts instances paths x = (n : ℕ) × (i : Instance) × (slice_get instances n ≡ Some i) × (slice_get paths n ≡ Some x.0) × (x.1 < count_of_things counts i.reactor)

mem_listed : (counts : List ℕ) (instances : List Instance) (paths : List (List ℕ)) (x : List ℕ × ℕ) → Mem x (all_things counts instances paths) → Listed counts instances paths x
mem_listed counts [] paths x m = absurd m
mem_listed counts (i ∷ is) [] x m = absurd m
mem_listed counts (i ∷ is) (p ∷ ps) x m = go (mem_cases x (things_at p (count_of_things counts i.reactor)) (all_things counts is ps) m) (λ k. mem_listed counts is ps x k)
  where
    go : Mem x (things_at p (count_of_things counts i.reactor)) ⊎ Mem x (all_things counts is ps) → (Mem x (all_things counts is ps) → Listed counts is ps x) → Listed counts (i ∷ is) (p ∷ ps) x
    go (inl a) rest = let r = mem_at p (count_of_things counts i.reactor) x a in (0, i, refl, ap Some r.0, r.1)
    go (inr b) rest = let r = rest b in (suc r.0, r.1, r.2, r.3, r.4)

listed_mem : (counts : List ℕ) (instances : List Instance) (paths : List (List ℕ)) (n : ℕ) (i : Instance) (p : List ℕ) (k : ℕ) → slice_get instances n ≡ Some i → slice_get paths n ≡ Some p → k < count_of_things counts i.reactor → Mem (p, k) (all_things counts instances paths)
listed_mem counts [] paths n i p k d e l = absurd (cc)
listed_mem counts (j ∷ is) [] n i p k d e l = absurd (cc)
listed_mem counts (j ∷ is) (q ∷ ps) zero i p k d e l = let a : i ≡ j = cc in let b : q ≡ p = cc in let m = at_mem q (count_of_things counts j.reactor) k (subst (λ x. k < count_of_things counts x.reactor) a l) in mem_left (p, k) (things_at q (count_of_things counts j.reactor)) (all_things counts is ps) (subst (λ x. Mem (x, k) (things_at q (count_of_things counts j.reactor))) b m)
listed_mem counts (j ∷ is) (q ∷ ps) (suc n) i p k d e l = mem_right (p, k) (things_at q (count_of_things counts j.reactor)) (all_things counts is ps) (listed_mem counts is ps n i p k d e l)

-- no thing stands twice
abbrev pub Differ : {X : Type 0} → X → X → Type 0
Differ x y = x ≡ y → ⊥

pairs_things_at : (path : List ℕ) (n : ℕ) → Pairs Differ (things_at path n)
pairs_things_at path zero = tt
pairs_things_at path (suc n) = ((λ y m e. let r = mem_at path n y m in let l : y.1 < n = r.1 in let q : n ≡ y.1 = ap (λ z. z.1) e in omega arith), pairs_things_at path n)

pairs_things : (counts : List ℕ) (instances : List Instance) (paths : List (List ℕ)) → Pairs PathBefore paths → Pairs Differ (all_things counts instances paths)
pairs_things counts [] paths w = tt
pairs_things counts (i ∷ is) [] w = tt
pairs_things counts (i ∷ is) (p ∷ ps) w = pairs_append Differ (things_at p (count_of_things counts i.reactor)) (all_things counts is ps) (pairs_things_at p (count_of_things counts i.reactor)) (pairs_things counts is ps w.1) (λ x y a b e. apart x y a b e)
  where
    apart : (x y : List ℕ × ℕ) → Mem x (things_at p (count_of_things counts i.reactor)) → Mem y (all_things counts is ps) → x ≡ y → ⊥
    apart x y a b e =
        let f : p ≡ x.0 = (mem_at p (count_of_things counts i.reactor) x a).0 in
        let g = mem_listed counts is ps y b in
        let h : y.0 ≡ p = sym (f ∙ ap (λ z. z.0) e) in
        before_itself p (subst (λ q. PathBefore p q) h (w.0 y.0 (mem_get ps g.0 y.0 g.3)))

distinct_from : {X : Type 0} (xs : List X) → Pairs Differ xs → (i j : ℕ) (x : X) → slice_get xs i ≡ Some x → slice_get xs j ≡ Some x → i ≡ j
distinct_from {X} xs w i j x a b = same (cases_lt i j) (cases_lt j i)
  where
    same : (i < j) ⊎ (j ≤ i) → (j < i) ⊎ (i ≤ j) → i ≡ j
    same (inl l) r = absurd (pairs_at Differ xs w i j x x a b l refl)
    same (inr l) (inl r) = absurd (pairs_at Differ xs w j i x x b a r refl)
    same (inr l) (inr r) = omega arith

-- the things of a walk's instances are more than the limit exactly where those of the tree are
pub walk_more_things : (counts : List ℕ) (table : List Contents) (main : ℕ) (instances : List Instance) (limit : ℕ) → IsWalk table main instances → limit < things counts instances → IsMoreThan (IsThingByPath table main counts) limit
walk_more_things counts table main instances limit w l = record {
  some = all_things counts instances w.paths;
  more = let s = length_things counts instances w.paths w.as_long in omega arith;
  each = λ j x e. let g = mem_listed counts instances w.paths x (mem_get (all_things counts instances w.paths) j x e) in (g.1.reactor, (w.each g.0 g.1 x.0 g.2 g.3).leads, g.4);
  distinct = distinct_from (all_things counts instances w.paths) (pairs_things counts instances w.paths (pairs_from PathBefore w.paths w.in_order.in_order));
}

pub walk_not_more_things : (counts : List ℕ) (table : List Contents) (main : ℕ) (instances : List Instance) (limit : ℕ) → IsWalk table main instances → things counts instances ≤ limit → IsMoreThan (IsThingByPath table main counts) limit → ⊥
walk_not_more_things counts table main instances limit w l m =
    let n = no_longer m.some (all_things counts instances w.paths) m.distinct (λ x k. let g = get_mem x m.some k in listed x (m.each g.0 x g.1)) in
    let o = m.more in
    let s = length_things counts instances w.paths w.as_long in
    omega arith
  where
    listed : (x : List ℕ × ℕ) → IsThingByPath table main counts x → Mem x (all_things counts instances w.paths)
    listed x t =
        let at = w.in_order.all x.0 (t.0, t.1) in
        let there = get_mem x.0 w.paths (mem_get w.paths at.0 x.0 at.1) in
        let b = w.as_long in
        let i = get_there instances at.0 (let l : at.0 < length w.paths = slice_get_within w.paths at.0 x.0 at.1 in omega arith) in
        let e = (w.each at.0 i.0 x.0 i.1 at.1).leads in
        let q : t.0 ≡ i.0.reactor = (let f = t.1 in cc) in
        listed_mem counts instances w.paths at.0 i.0 x.0 x.1 i.1 at.1 (subst (λ r. x.1 < count_of_things counts r) q t.2)
