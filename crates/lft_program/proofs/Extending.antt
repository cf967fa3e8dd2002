-- Names that are put one after another: where they stand, and why none stands there twice.
use Rattle.std.proofs.Common.{◌≡◌, ℕ, ◌+◌, ◌<◌, ◌≤◌, zero, suc, List, [], ◌∷◌, ◌++◌, map, take, drop, length, get_or, slice_get, Some, refl, sym, ap, subst, ◌∙◌, arith, length-append, add-zero}
use Rattle.std.proofs.lemmas.{Grind.common_steps, Option.{slice_get_within, get_or_from_slice_get, slice_get-get_or}}
use Rattle.lft_lists.proofs.{Mapped.mapped, Places.get_left}
use Rattle.lft_ir.specs.inner.Names.{HasNoTwice}
use Rattle.lft_program.{specs.inner.Extended.{Ending, name_after, extended, AreAfter}, proofs.Zips.map_around}
use Rattle.lft_resolve.proofs.Twice.{slice_get-middle, map_last}

pub extended-append : (t : List (List ℕ)) (xs ys : List Ending) → extended t (xs ++ ys) ≡ extended (extended t xs) ys
extended-append t [] ys = refl
extended-append t (x ∷ xs) ys = extended-append (t ++ name_after t x ∷ []) xs ys

pub length-extended : (t : List (List ℕ)) (es : List Ending) → length (extended t es) ≡ length t + length es
length-extended t [] = sym (add-zero (length t))
length-extended t (e ∷ es) =
    let one : length (t ++ name_after t e ∷ []) ≡ length t + 1 = length-append t (name_after t e ∷ []) in
    let rest = length-extended (t ++ name_after t e ∷ []) es in
    let count : (length t + 1) + length es ≡ length t + suc (length es) = omega arith in
    rest ∙ ap (λ n. n + length es) one ∙ count

-- what stands there stays
pub extended-keeps : (t : List (List ℕ)) (es : List Ending) (i : ℕ) (x : List ℕ) → slice_get t i ≡ Some x → slice_get (extended t es) i ≡ Some x
extended-keeps t [] i x at = at
extended-keeps t (e ∷ es) i x at = extended-keeps (t ++ name_after t e ∷ []) es i x (get_left t (name_after t e ∷ []) i x at)

-- the ending has its name at this place
pub record StandsAt (t : List (List ℕ)) (e : Ending) (place : ℕ) : Type 0 where
  pub container : List ℕ
  pub there : slice_get t e.0 ≡ Some container
  pub name : slice_get t place ≡ Some (container ++ e.1)

AreAfter-rest : (n m : ℕ) (e : Ending) (es : List Ending) → m ≡ n + 1 → AreAfter n (e ∷ es) → AreAfter m es
AreAfter-rest n m e es is after k d at = let h = after (suc k) d at in omega arith

-- each ending has its name, in the order of the endings
pub extended-at : (t : List (List ℕ)) (es : List Ending) → AreAfter (length t) es → (k : ℕ) (e : Ending) → slice_get es k ≡ Some e → StandsAt (extended t es) e (length t + k)
extended-at t [] after k e at = absurd (cc)
extended-at t (d ∷ es) after zero e at =
    let same : d ≡ e = cc in
    subst (λ x. StandsAt (extended t (d ∷ es)) x (length t + 0)) same here
  where
    low : d.0 < length t
    low = let h = after zero d refl in omega arith

    here : StandsAt (extended t (d ∷ es)) d (length t + 0)
    here =
        let c = get_or t d.0 [] in
        let there : slice_get t d.0 ≡ Some c = slice_get-get_or t d.0 [] low in
        let last = slice_get-middle t [] (c ++ d.1) in
        record {
          container = c;
          there = extended-keeps (t ++ (c ++ d.1) ∷ []) es d.0 c (get_left t ((c ++ d.1) ∷ []) d.0 c there);
          name = rw (add-zero (length t)) (extended-keeps (t ++ (c ++ d.1) ∷ []) es (length t) (c ++ d.1) last);
        }
extended-at t (d ∷ es) after (suc k) e at =
    let u = t ++ name_after t d ∷ [] in
    let one : length u ≡ length t + 1 = length-append t (name_after t d ∷ []) in
    let rest = extended-at u es (AreAfter-rest (length t) (length u) d es one after) k e at in
    let same : length u + k ≡ length t + suc k = omega arith in
    subst (λ n. StandsAt (extended u es) e n) same rest

-- the next of names that are all different isn't there yet
pub extended-fresh : (t : List (List ℕ)) (before after : List Ending) (e : Ending) → HasNoTwice (extended t (before ++ e ∷ after)) → (i : ℕ) → slice_get (extended t before) i ≡ Some (name_after (extended t before) e) → ⊥
extended-fresh t before after e once i at =
    let u = extended t before in
    let n = name_after u e in
    let early : slice_get (extended (u ++ n ∷ []) after) i ≡ Some n = extended-keeps (u ++ n ∷ []) after i n (get_left u (n ∷ []) i n at) in
    let late : slice_get (extended (u ++ n ∷ []) after) (length u) ≡ Some n = extended-keeps (u ++ n ∷ []) after (length u) n (slice_get-middle u [] n) in
    let all : HasNoTwice (extended (u ++ n ∷ []) after) = subst HasNoTwice (extended-append t before (e ∷ after)) once in
    let same : i ≡ length u = all i (length u) n early late in
    let within = slice_get_within u i n at in
    absurd (omega arith)

-- a loop that puts the name of each thing of a list after the names that stand there
module _ {C : Type 0} (v : C → Ending) (xs : List C) (i : ℕ) (t u : List (List ℕ)) (so_far : u ≡ extended t (map v (take i xs))) where
  module _ (x : C) (at : slice_get xs i ≡ Some x) where
    within : i < length xs
    within = slice_get_within xs i x at

    is : get_or xs i x ≡ x
    is = get_or_from_slice_get xs i x x at

    pub step_low : AreAfter (length t) (map v xs) → (v x).0 < length u
    step_low after =
        let low = within in
        let first : length (map v (take i xs)) ≡ i = grind (arith, common_steps) in
        let long : length u ≡ length t + length (map v (take i xs)) = ap length so_far ∙ length-extended t (map v (take i xs)) in
        let h = after i (v x) (mapped v xs i x at) in
        omega arith

    pub step_fresh : HasNoTwice (extended t (map v xs)) → (n : List ℕ) → n ≡ name_after u (v x) → (j : ℕ) → slice_get u j ≡ Some n → ⊥
    step_fresh once n named j there =
        let all = subst (λ l. HasNoTwice (extended t l)) (map_around v xs i x within is) once in
        let here : slice_get u j ≡ Some (name_after u (v x)) = there ∙ ap Some named in
        extended-fresh t (map v (take i xs)) (map v (drop (i + 1) xs)) (v x) all j (subst (λ l. slice_get l j ≡ Some (name_after l (v x))) so_far here)

    pub step_more : (n : List ℕ) → n ≡ name_after u (v x) → u ++ n ∷ [] ≡ extended t (map v (take (i + 1) xs))
    step_more n named =
        ap (λ m. u ++ m ∷ []) named
        ∙ ap (λ l. l ++ name_after l (v x) ∷ []) so_far
        ∙ sym (extended-append t (map v (take i xs)) (v x ∷ []))
        ∙ sym (ap (extended t) (map_last v xs i x within is))

  pub step_done : length xs ≤ i → u ≡ extended t (map v xs)
  step_done past =
      let whole : take i xs ≡ xs = grind (arith, common_steps) in
      so_far ∙ ap (λ l. extended t (map v l)) whole
