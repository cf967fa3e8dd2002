-- The short lists turned round.
use Rattle.std.proofs.Common.{◌≡◌, ◌≢◌, ℕ, suc, ◌+◌, ◌<◌, ◌≤◌, ◌⊎◌, inl, inr, List, [], ◌∷◌, ◌++◌, length, sym, ap, ◌∙◌, subst, arith, Option, Some, unwrap_or, slice_get, slice_set, slice_index_or, drop, AllPairs}
use Rattle.std.proofs.lemmas.{Option.{slice_get_within, slice_get-get_or}, Bool.{cases_eq, cases_lt, cases_order}}
use Rattle.lft_ir.specs.Parts.{Parts}
use Rattle.lft_graph.specs.{Graph.{GraphParts, IsGraphOf}, inner.Walks.AreInside}
use Rattle.lft_lists.proofs.Places.{get_there, get_write_cases, length_written, same_at}
use Rattle.lft_queue.specs.inner.Coming.NumberLists.{list_at}
use Rattle.lft_scheduler.specs.inner.Seats.{hit, times, AreOnce, IsNoted, IsMirrored, IsMirror}
use Rattle.lft_scheduler.proofs.Adding.{hit_same, hit_apart, times_drop, times_at, times_back}

times_append : (xs : List ℕ) (r x : ℕ) → times x (xs ++ r ∷ []) ≡ times x xs + hit x r
times_append [] r x = omega arith
times_append (y ∷ ys) r x = let h = times_append ys r x in omega arith

pub noted_more : (r place member : ℕ) (mine l : List ℕ) (old new : List (List ℕ)) → IsNoted r mine (drop place mine) old new → slice_get mine place ≡ Some member → slice_get new member ≡ Some l → IsNoted r mine (drop (place + 1) mine) old (slice_set new member (l ++ r ∷ []))
noted_more r place member mine l old new w e f = record {
  as_long = length_written new member (l ++ r ∷ []) ∙ w.as_long;
  here = λ a k m g h. here a k m g (get_write_cases new member a (l ++ r ∷ []) m within h);
  others = λ a x k m g h n. others a x k m g n (get_write_cases new member a (l ++ r ∷ []) m within h);
}
  where
    within : member < length new
    within = slice_get_within new member l f

    here : (a : ℕ) (k m : List ℕ) → slice_get old a ≡ Some k → ((a ≡ member) × (l ++ r ∷ [] ≡ m)) ⊎ ((a ≢ member) × (slice_get new a ≡ Some m)) → times r m + times a (drop (place + 1) mine) ≡ times r k + times a mine
    here a k m g (inl c) =
        let o = w.here a k l g (subst (λ j. slice_get new j ≡ Some l) (sym c.0) f) in
        let t = times_drop mine place member e a in
        let h : hit a member ≡ 1 = ap (hit a) (sym c.0) ∙ hit_same a in
        let p : times r m ≡ times r l + hit r r = ap (times r) (sym c.1) ∙ times_append l r r in
        let q = hit_same r in
        omega arith
    here a k m g (inr c) =
        let o = w.here a k m g c.1 in
        let t = times_drop mine place member e a in
        let h = hit_apart a member c.0 in
        omega arith

    others : (a x : ℕ) (k m : List ℕ) → slice_get old a ≡ Some k → x ≢ r → ((a ≡ member) × (l ++ r ∷ [] ≡ m)) ⊎ ((a ≢ member) × (slice_get new a ≡ Some m)) → times x m ≡ times x k
    others a x k m g n (inl c) =
        let o = w.others a x k l g (subst (λ j. slice_get new j ≡ Some l) (sym c.0) f) n in
        let p : times x m ≡ times x l + hit x r = ap (times x) (sym c.1) ∙ times_append l r x in
        let h = hit_apart x r n in
        omega arith
    others a x k m g n (inr c) = w.others a x k m g c.1 n

-- of no reaction, all lists are empty
pub mirrored_none : (before after : List (List ℕ)) → length after ≡ length before → ((a : ℕ) → list_at after a ≡ []) → IsMirrored before 0 after
mirrored_none before after long none = record {
  as_long = long;
  there = λ a r list own f g l. absurd (omega arith);
  none = λ a r list f l. ap (times r) (sym (ap (λ (o : Option (List ℕ)). unwrap_or o []) f) ∙ none a);
}

pub mirrored_more : (before : List (List ℕ)) (count : ℕ) (mine : List ℕ) (after new : List (List ℕ)) → IsMirrored before count after → slice_get before count ≡ Some mine → IsNoted count mine [] after new → IsMirrored before (count + 1) new
mirrored_more before count mine after new w e n = record {
  as_long = n.as_long ∙ w.as_long;
  there = λ a r list own f g l. there a r list own f g l (cases_eq r count);
  none = λ a r list f l. (let o = was a list f in let d = n.others a r o.0 list o.1 f (λ q. absurd (omega arith)) in let z = w.none a r o.0 o.1 (omega arith) in omega arith);
}
  where
    was : (a : ℕ) (list : List ℕ) → slice_get new a ≡ Some list → (k : List ℕ) × (slice_get after a ≡ Some k)
    was a list f = get_there after a (let i = slice_get_within new a list f in let s = n.as_long in omega arith)

    there : (a r : ℕ) (list own : List ℕ) → slice_get new a ≡ Some list → slice_get before r ≡ Some own → r < count + 1 → (r ≡ count) ⊎ (r ≡ count → ⊥) → times r list ≡ times a own
    there a r list own f g l (inl q) =
        let o = was a list f in
        let h = n.here a o.0 list o.1 f in
        let z = w.none a count o.0 o.1 (omega arith) in
        let m : own ≡ mine = same_at before r count own mine g e q in
        let p : times count list ≡ times a mine = omega arith in
        ap (λ j. times j list) q ∙ p ∙ ap (times a) (sym m)
    there a r list own f g l (inr d) =
        let o = was a list f in
        n.others a r o.0 list o.1 f d ∙ w.there a r o.0 own o.1 g (omega arith)

-- an ascending list has none twice
times_once : (xs : List ℕ) → ((i j x : ℕ) → slice_get xs i ≡ Some x → slice_get xs j ≡ Some x → i ≡ j) → (x : ℕ) → times x xs ≤ 1
times_once [] o x = omega arith
times_once (y ∷ ys) o x = go (cases_eq x y) (times_once ys (λ i j z e f. (let q : suc i ≡ suc j = o (suc i) (suc j) z e f in omega arith)) x)
  where
    last : x ≡ y → (0 < times x ys) ⊎ (times x ys ≤ 0) → times x (y ∷ ys) ≤ 1
    last q (inl t) = let m = times_back ys x t in let z : 0 ≡ suc m.0 = o 0 (suc m.0) x (ap Some (sym q)) m.1 in absurd (omega arith)
    last q (inr t) = let h : hit x y ≡ 1 = ap (hit x) (sym q) ∙ hit_same x in omega arith

    go : (x ≡ y) ⊎ (x ≡ y → ⊥) → times x ys ≤ 1 → times x (y ∷ ys) ≤ 1
    go (inl q) h = last q (cases_lt 0 (times x ys))
    go (inr n) h = let z = hit_apart x y n in omega arith

ascending_once : (xs : List ℕ) → AllPairs (λ a b. a < b) xs → (i j x : ℕ) → slice_get xs i ≡ Some x → slice_get xs j ≡ Some x → i ≡ j
ascending_once xs p i j x e f =
    let v = slice_get_within xs i x e in
    let w = slice_get_within xs j x f in
    let g : slice_get xs i ≡ Some (slice_index_or xs i x) = slice_get-get_or xs i x v in
    let h : slice_get xs j ≡ Some (slice_index_or xs j x) = slice_get-get_or xs j x w in
    let a : slice_index_or xs i x ≡ x = cc in
    let b : slice_index_or xs j x ≡ x = cc in
    elim (cases_order i j) [ inl q ↦ q | inr o ↦ elim o [ inl l ↦ (let u = p i j x l w in absurd (omega arith)) | inr l ↦ (let u = p j i x l v in absurd (omega arith)) ] ]

module _ (before after : List (List ℕ)) (w : IsMirror before after) where
  pub mirror_inside : AreInside after
  mirror_inside a i r list e f = elim (cases_lt r (length after)) [ inl l ↦ l | inr l ↦ (let s = w.as_long in let z = w.none a r list e (omega arith) in let t = times_at list i r f in absurd (omega arith)) ]

  pub mirror_once : (program : Parts) (graph : GraphParts) → IsGraphOf program graph → graph.before ≡ before → AreOnce after
  mirror_once program graph is q a r list e = at (cases_lt r (length before))
    where
      at : (r < length before) ⊎ (length before ≤ r) → times r list ≤ 1
      at (inl l) =
          let m = get_there before r l in
          let t = w.there a r list m.0 e m.1 l in
          let b = is.before r m.0 (subst (λ (k : List (List ℕ)). slice_get k r ≡ Some m.0) (sym q) m.1) in
          let o = times_once m.0 (ascending_once m.0 b.ascends) a in
          omega arith
      at (inr l) = let z = w.none a r list e l in omega arith
