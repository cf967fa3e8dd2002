-- How many instances there are at least: those that are few steps below one.
use Rattle.std.proofs.Common.{◌≡◌, ℕ, zero, suc, ◌+◌, ◌≤◌, ◌<◌, ◌⊎◌, inl, inr, List, [], ◌∷◌, ◌++◌, Option, Some, None, get_or, length, map, slice_get, length-append, refl, sym, ap, subst, ◌∙◌, arith}
use Rattle.std.{specs.Option.option_and_then, proofs.lemmas.{Bool.cases_lt, List.length-map}}
use Rattle.lft_lists.proofs.Members.{Mem, mem_cases, mem_from_map, mem_get}
use Rattle.lft_resolve.specs.{inner.Expansion.Contents.contained, Expansion.Paths.{along, PathBefore, Exists, IsMoreThan}}
use Rattle.lft_resolve.specs.declared.expansion.walk.Contents.{Contents}
use Rattle.lft_resolve.proofs.ExpansionLemmas.{Orders.before_itself, Pairs.{Pairs, pairs_append, pairs_at}}

-- what a reactor contains
abbrev pub listed : Option Contents → List ℕ
listed None = []
listed (Some x) = x.instances.items

abbrev pub held : List Contents → ℕ → List ℕ
held table r = listed (slice_get table r)

held_step : (o : Option Contents) (j c : ℕ) → slice_get (listed o) j ≡ Some c → option_and_then (λ x. slice_get x.instances.items j) o ≡ Some c
held_step None j c e = absurd (cc)
held_step (Some x) j c e = e

-- the paths through each of these reactors, which stand at the places from k on
abbrev pub branches : (ℕ → List (List ℕ)) → ℕ → List ℕ → List (List ℕ)
branches f k [] = []
branches f k (c ∷ cs) = map (λ p. k ∷ p) (f c) ++ branches f (suc k) cs

-- the paths of at most so many steps from a reactor
abbrev pub paths : List Contents → ℕ → ℕ → List (List ℕ)
paths table zero r = [] ∷ []
paths table (suc d) r = [] ∷ branches (paths table d) 0 (held table r)

mem_branches : (f : ℕ → List (List ℕ)) (k : ℕ) (cs : List ℕ) (p : List ℕ) → Mem p (branches f k cs) → (j : ℕ) × (c : ℕ) × (q : List ℕ) × (slice_get cs j ≡ Some c) × Mem q (f c) × ((k + j) ∷ q ≡ p)
mem_branches f k [] p m = absurd m
mem_branches f k (c ∷ cs) p m = go (mem_cases p (map (λ q. k ∷ q) (f c)) (branches f (suc k) cs) m) (λ n. mem_branches f (suc k) cs p n)
  where
    go : Mem p (map (λ q. k ∷ q) (f c)) ⊎ Mem p (branches f (suc k) cs) → (Mem p (branches f (suc k) cs) → (j : ℕ) × (d : ℕ) × (q : List ℕ) × (slice_get cs j ≡ Some d) × Mem q (f d) × ((suc k + j) ∷ q ≡ p)) → (j : ℕ) × (d : ℕ) × (q : List ℕ) × (slice_get (c ∷ cs) j ≡ Some d) × Mem q (f d) × ((k + j) ∷ q ≡ p)
    go (inl a) rest = (let g = mem_from_map (λ q. k ∷ q) (f c) p a in let e : k + 0 ≡ k = omega arith in (0, c, g.0, refl, g.1, ap (λ i. i ∷ g.0) e ∙ g.2))
    go (inr b) rest = (let g = rest b in let e : k + suc g.0 ≡ suc k + g.0 = omega arith in (suc g.0, g.1, g.2, g.3, g.4, ap (λ i. i ∷ g.2) e ∙ g.5))

-- each of them leads somewhere
exist : (table : List Contents) (d r : ℕ) (p : List ℕ) → Mem p (paths table d r) → Exists (contained table) r p
exist table zero r p m = elim m [ inl e ↦ (r, ap (along (contained table) r) (sym e)) | inr z ↦ absurd z ]
exist table (suc d) r p m = elim m [ inl e ↦ (r, ap (along (contained table) r) (sym e)) | inr b ↦ below (mem_branches (paths table d) 0 (held table r) p b) (exist table d) ]
  where
    below : (j : ℕ) × (c : ℕ) × (q : List ℕ) × (slice_get (held table r) j ≡ Some c) × Mem q (paths table d c) × ((0 + j) ∷ q ≡ p) → ((c : ℕ) (q : List ℕ) → Mem q (paths table d c) → Exists (contained table) c q) → Exists (contained table) r p
    below (j, c, q, at, m, e) deeper =
        let inner = deeper c q m in
        let here : 0 + j ≡ j = omega arith in
        let step : contained table r j ≡ Some c = held_step (slice_get table r) j c at in
        (inner.0, ap (along (contained table) r) (sym e ∙ ap (λ i. i ∷ q) here) ∙ ap (option_and_then (λ y. along (contained table) y q)) step ∙ inner.1)

-- they are in order, so none stands there twice
pairs_step : (k : ℕ) (ps : List (List ℕ)) → Pairs PathBefore ps → Pairs PathBefore (map (λ p. k ∷ p) ps)
pairs_step k [] w = tt
pairs_step k (p ∷ ps) w = ((λ y m. let g = mem_from_map (λ q. k ∷ q) ps y m in subst (λ z. PathBefore (k ∷ p) z) g.2 (inr (refl, w.0 g.0 g.1))), pairs_step k ps w.1)

pairs_branches : (f : ℕ → List (List ℕ)) → ((c : ℕ) → Pairs PathBefore (f c)) → (k : ℕ) (cs : List ℕ) → Pairs PathBefore (branches f k cs)
pairs_branches f each k [] = tt
pairs_branches f each k (c ∷ cs) = pairs_append PathBefore (map (λ p. k ∷ p) (f c)) (branches f (suc k) cs) (pairs_step k (f c) (each c)) (pairs_branches f each (suc k) cs) across
  where
    across : (x y : List ℕ) → Mem x (map (λ p. k ∷ p) (f c)) → Mem y (branches f (suc k) cs) → PathBefore x y
    across x y a b =
        let g = mem_from_map (λ p. k ∷ p) (f c) x a in
        let h = mem_branches f (suc k) cs y b in
        let later : k < suc k + h.0 = omega arith in
        subst (λ z. PathBefore z y) g.2 (subst (λ z. PathBefore (k ∷ g.0) z) h.5 (inl later))

ordered : (table : List Contents) (d r : ℕ) → Pairs PathBefore (paths table d r)
ordered table zero r = ((λ y m. absurd m), tt)
ordered table (suc d) r = ((λ y m. let h = mem_branches (paths table d) 0 (held table r) y m in subst (λ z. PathBefore [] z) h.5 tt), pairs_branches (paths table d) (ordered table d) 0 (held table r))

pub more_paths : (table : List Contents) (d r n : ℕ) → n < length (paths table d r) → IsMoreThan (Exists (contained table) r) n
more_paths table d r n more = record {
  some = paths table d r;
  more = more;
  each = λ i p e. exist table d r p (mem_get (paths table d r) i p e);
  distinct = λ i j p a b. same i j p a b (cases_lt i j) (cases_lt j i);
}
  where
    same : (i j : ℕ) (p : List ℕ) → slice_get (paths table d r) i ≡ Some p → slice_get (paths table d r) j ≡ Some p → (i < j) ⊎ (j ≤ i) → (j < i) ⊎ (i ≤ j) → i ≡ j
    same i j p a b (inl l) k = absurd (before_itself p (pairs_at PathBefore (paths table d r) (ordered table d r) i j p p a b l))
    same i j p a b (inr l) (inl k) = absurd (before_itself p (pairs_at PathBefore (paths table d r) (ordered table d r) j i p p b a k))
    same i j p a b (inr l) (inr k) = omega arith

-- ---- their number

abbrev pub total : (ℕ → List (List ℕ)) → List ℕ → ℕ
total f [] = 0
total f (c ∷ cs) = length (f c) + total f cs

length_branches : (f : ℕ → List (List ℕ)) (k : ℕ) (cs : List ℕ) → length (branches f k cs) ≡ total f cs
length_branches f k [] = refl
length_branches f k (c ∷ cs) = let rest = length_branches f (suc k) cs in omega (arith, rest, length-append (map (λ p. k ∷ p) (f c)) (branches f (suc k) cs), length-map (f c) (λ p. k ∷ p))

total_append : (f : ℕ → List (List ℕ)) (xs ys : List ℕ) → total f (xs ++ ys) ≡ total f xs + total f ys
total_append f [] ys = omega arith
total_append f (x ∷ xs) ys = let rest = total_append f xs ys in omega arith

total_grows : (f g : ℕ → List (List ℕ)) → ((c : ℕ) → length (f c) ≤ length (g c)) → (cs : List ℕ) → total f cs ≤ total g cs
total_grows f g each [] = omega arith
total_grows f g each (c ∷ cs) = let one = each c in let rest = total_grows f g each cs in omega arith

grows : (table : List Contents) (d r : ℕ) → length (paths table d r) ≤ length (paths table (suc d) r)
grows table zero r = omega arith
grows table (suc d) r =
    let more = total_grows (paths table d) (paths table (suc d)) (grows table d) (held table r) in
    let one = length_branches (paths table d) 0 (held table r) in
    let other = length_branches (paths table (suc d)) 0 (held table r) in
    omega (arith, more, one, other)

-- ---- counting by a list of those that are left

-- with what was counted, what lies at most so many steps below those that are left is no more than lies below the main one
abbrev pub Counting : List Contents → ℕ → ℕ → List ℕ → Type 0
Counting table main counted left = (d : ℕ) → counted + total (paths table d) left ≤ length (paths table (d + counted) main)

module _ (table : List Contents) (main counted : ℕ) (left : List ℕ) (number : ℕ) (h : Counting table main counted (left ++ number ∷ [])) where
  turned : (d : ℕ) → (counted + 1) + (total (paths table d) left + total (paths table d) (held table number)) ≤ length (paths table (d + (counted + 1)) main)
  turned d =
      let before = h (suc d) in
      let both = total_append (paths table (suc d)) left (number ∷ []) in
      let own = length_branches (paths table d) 0 (held table number) in
      let rest = total_grows (paths table d) (paths table (suc d)) (grows table d) left in
      let same : length (paths table (suc d + counted) main) ≡ length (paths table (d + (counted + 1)) main) = ap (λ k. length (paths table k main)) (omega arith) in
      omega (arith, before, both, own, rest, same)

  -- one is counted, and what it contains is left
  pub counting_turn : Counting table main (counted + 1) (left ++ held table number)
  counting_turn d = let all = turned d in let both = total_append (paths table d) left (held table number) in omega (arith, all, both)

  -- one is counted, and what it contains is left out
  pub counting_drop : Counting table main (counted + 1) left
  counting_drop d = let all = turned d in omega (arith, all)

-- as many as were counted are there
pub counted_there : (table : List Contents) (main counted : ℕ) (left : List ℕ) → Counting table main counted left → (n : ℕ) → n < counted → IsMoreThan (Exists (contained table) main) n
counted_there table main counted left h n lt = let all = h 0 in more_paths table (0 + counted) main n (omega (arith, all, lt))

pub counted_more : (table : List Contents) (main counted : ℕ) (left : List ℕ) → Counting table main counted left → 0 < length left → (n : ℕ) → n ≤ counted → IsMoreThan (Exists (contained table) main) n
counted_more table main counted [] h some n le = absurd (omega arith)
counted_more table main counted (c ∷ cs) h some n le = let all = h 0 in more_paths table (0 + counted) main n (omega (arith, all, le))

-- what a reactor of the table contains
pub held_at : (table : List Contents) (r : ℕ) (x : Contents) → r < length table → get_or table r x ≡ x → held table r ≡ x.instances.items
held_at [] r x within is = absurd (omega arith)
held_at (y ∷ table) zero x within is = ap (λ z. z.instances.items) is
held_at (y ∷ table) (suc r) x within is = held_at table r x (omega arith) is
