-- The things of the first instances, in order.
use Rattle.std.proofs.Common.{◌≡◌, ℕ, ◌+◌, ◌<◌, ◌≤◌, ◌⊎◌, inl, inr, List, [], ◌∷◌, ◌++◌, length, sym, ap, ◌∙◌, subst, arith, Some, slice_get, take, length-append}
use Rattle.std.proofs.lemmas.{Bool.cases_lt, Option.slice_get_within}
use Rattle.lft_lists.proofs.Places.{get_push, get_last}
use Rattle.lft_resolve.specs.declared.expansion.{walk.Instance.Instance, numbering.Thing.Thing}
use Rattle.lft_resolve.specs.inner.Expansion.{Numbers.{count_of_things, things}, Listing.AreThingsListed}
use Rattle.lft_resolve.proofs.ExpansionLemmas.{Things.{things_more, things_all}, Joining.Earlier}

pub record Listing (counts : List ℕ) (instances : List Instance) (number place : ℕ) (all : List Thing) : Type 0 where
  pub as_long : length all ≡ things counts (take number instances) + place
  pub each : (n k : ℕ) (i : Instance) → slice_get instances n ≡ Some i → k < count_of_things counts i.reactor → Earlier number place n k → slice_get all (things counts (take n instances) + k) ≡ Some (record { instance = n; place = k })

pub listing_more : (counts : List ℕ) (instances : List Instance) (number place : ℕ) (all : List Thing) → Listing counts instances number place all → Listing counts instances number (place + 1) (all ++ (record { instance = number; place = place }) ∷ [])
listing_more counts instances number place all w = record {
  as_long = length-append all (this ∷ []) ∙ (let s = w.as_long in omega arith);
  each = λ n k i e l a. go n k i e l (cases_lt n number) (cases_lt k place) a;
}
  where
    this : Thing
    this = record { instance = number; place = place }

    old : (n k : ℕ) (i : Instance) → slice_get instances n ≡ Some i → k < count_of_things counts i.reactor → Earlier number place n k → slice_get (all ++ this ∷ []) (things counts (take n instances) + k) ≡ Some (record { instance = n; place = k })
    old n k i e l a = get_push all this (things counts (take n instances) + k) (record { instance = n; place = k }) (w.each n k i e l a)

    new : (n k : ℕ) → n ≡ number → k ≡ place → slice_get (all ++ this ∷ []) (things counts (take n instances) + k) ≡ Some (record { instance = n; place = k })
    new n k e f =
        let P : ℕ → ℕ → Type 0 = λ x y. slice_get (all ++ this ∷ []) (things counts (take x instances) + y) ≡ Some (record { instance = x; place = y }) in
        let here : P number place = ap (slice_get (all ++ this ∷ [])) (sym w.as_long) ∙ get_last all this in
        subst (λ x. P x k) (sym e) (subst (P number) (sym f) here)

    go : (n k : ℕ) (i : Instance) → slice_get instances n ≡ Some i → k < count_of_things counts i.reactor → (n < number) ⊎ (number ≤ n) → (k < place) ⊎ (place ≤ k) → Earlier number (place + 1) n k → slice_get (all ++ this ∷ []) (things counts (take n instances) + k) ≡ Some (record { instance = n; place = k })
    go n k i e l (inl a) q b = old n k i e l (inl a)
    go n k i e l (inr a) q (inl b) = absurd (omega arith)
    go n k i e l (inr a) (inl q) (inr b) = old n k i e l (inr (b.0, q))
    go n k i e l (inr a) (inr q) (inr b) = new n k b.0 (let z : k < place + 1 = b.1 in omega arith)

pub listing_next : (counts : List ℕ) (instances : List Instance) (number place : ℕ) (all : List Thing) (i : Instance) → Listing counts instances number place all → slice_get instances number ≡ Some i → place ≡ count_of_things counts i.reactor → Listing counts instances (number + 1) 0 all
listing_next counts instances number place all i w e f = record {
  as_long = let s = w.as_long in let m = things_more counts instances number i e in omega arith;
  each = λ n k j g l a. w.each n k j g l (before n k j g l (cases_lt n number) a);
}
  where
    before : (n k : ℕ) (j : Instance) → slice_get instances n ≡ Some j → k < count_of_things counts j.reactor → (n < number) ⊎ (number ≤ n) → Earlier (number + 1) 0 n k → Earlier number place n k
    before n k j g l (inl a) b = inl a
    before n k j g l (inr a) (inr b) = absurd (let z : k < 0 = b.1 in omega arith)
    before n k j g l (inr a) (inl b) =
        let q : n ≡ number = omega arith in
        let x : slice_get instances number ≡ Some j = subst (λ m. slice_get instances m ≡ Some j) q g in
        let y : j ≡ i = cc in
        let u : count_of_things counts j.reactor ≡ count_of_things counts i.reactor = ap (λ m. count_of_things counts m.reactor) y in
        inr (q, omega arith)

pub listing_end : (counts : List ℕ) (instances : List Instance) (number : ℕ) (all : List Thing) → Listing counts instances number 0 all → number ≡ length instances → AreThingsListed counts instances all
listing_end counts instances number all w e = record {
  as_long = let s = w.as_long in let t : things counts (take number instances) ≡ things counts instances = ap (λ k. things counts (take k instances)) e ∙ things_all counts instances in omega arith;
  each = λ n k i f l. w.each n k i f l (inl (let g = slice_get_within instances n i f in omega arith));
}
