-- Where a name stands among the inputs of a reaction.
use Rattle.std.proofs.Common.{◌≡◌, ◌∙◌, inl, inr, ◌+◌, ◌<◌, ◌≤◌, ℕ, zero, suc, List, [], ◌∷◌, ◌++◌, length, take, filter_map, Some, None, slice_get, refl, sym, subst, arith, append-nil, length-append}
use Rattle.lft_lists.proofs.Picked.{kept_more}
use Rattle.std.proofs.lemmas.{Bool.cases_lt, List.take_all, Option.slice_get_within}
use Rattle.lft_ir.specs.{Parts.inputs, Naming.named}
use Rattle.lft_ir.specs.declared.parts.{Name.Name, Reaction.Reaction, Trigger.{Trigger, TheVariants.{Startup, Shutdown, Timer, On}}}

-- a name that a trigger names stands behind those that the triggers before it name
pub at_trigger : (xs : List Trigger) (us : List Name) (at : ℕ) (n : Name) → slice_get xs at ≡ Some (On n) → slice_get (filter_map named xs ++ us) (length (filter_map named (take at xs))) ≡ Some n
at_trigger [] us at n h = absurd (cc h)
at_trigger (x ∷ xs) us zero n h = let e : x ≡ On n = cc h in rw e refl
at_trigger (Startup ∷ xs) us (suc at) n h = at_trigger xs us at n h
at_trigger (Shutdown ∷ xs) us (suc at) n h = at_trigger xs us at n h
at_trigger (Timer t ∷ xs) us (suc at) n h = at_trigger xs us at n h
at_trigger (On m ∷ xs) us (suc at) n h = at_trigger xs us at n h

-- one more item that isn't n
pub not_pushed : (ns : List Name) (m n : Name) → ((i : ℕ) → slice_get ns i ≡ Some n → ⊥) → (m ≡ n → ⊥) → (i : ℕ) → slice_get (ns ++ (m ∷ [])) i ≡ Some n → ⊥
not_pushed [] m n none other zero h = other (cc h)
not_pushed [] m n none other (suc i) h = absurd (cc h)
not_pushed (x ∷ ns) m n none other zero h = none zero h
not_pushed (x ∷ ns) m n none other (suc i) h = not_pushed ns m n (λ j e. none (suc j) e) other i h

-- an item behind those of a list
pub behind : (ns us : List Name) (at i : ℕ) (n : Name) → i ≡ length ns + at → slice_get us at ≡ Some n → slice_get (ns ++ us) i ≡ Some n
behind [] us at i n e h = let k : i ≡ at = omega (arith, e) in rw k h
behind (x ∷ ns) us at zero n e h = absurd (omega (arith, e))
behind (x ∷ ns) us at (suc i) n e h = behind ns us at i n (omega (arith, e)) h

-- one place more without n
pub none_up_to : (us : List Name) (at : ℕ) (n : Name) → ((j : ℕ) → j < at → slice_get us j ≡ Some n → ⊥) → (slice_get us at ≡ Some n → ⊥) → (j : ℕ) → j < at + 1 → slice_get us j ≡ Some n → ⊥
none_up_to us at n none other j below h = elim (cases_lt j at) [
  | inl l ↦ none j l h
  | inr g ↦ let e : j ≡ at = omega arith in other (rw e at h)
]

-- what is in neither list is nowhere in both
pub in_neither : (ns us : List Name) (n : Name) → ((i : ℕ) → slice_get ns i ≡ Some n → ⊥) → ((i : ℕ) → slice_get us i ≡ Some n → ⊥) → (i : ℕ) → slice_get (ns ++ us) i ≡ Some n → ⊥
in_neither [] us n none other i h = other i h
in_neither (x ∷ ns) us n none other zero h = none zero h
in_neither (x ∷ ns) us n none other (suc i) h = in_neither ns us n (λ j e. none (suc j) e) other i h

-- a trigger that names n is the input n, at the place behind those that the triggers before it name
pub trigger_input : (x : Reaction) (xs : List Trigger) (at place : ℕ) (n : Name) → xs ≡ x.triggers → place ≡ length (filter_map named (take at xs)) → slice_get xs at ≡ Some (On n) → slice_get (inputs x) place ≡ Some n
trigger_input x xs at place n e p h = rw p (subst (λ (ts : List Trigger). slice_get (filter_map named ts ++ x.uses) (length (filter_map named (take at xs))) ≡ Some n) e (at_trigger xs x.uses at n h))

-- one trigger more, which names another name
pub named_more : (xs : List Trigger) (at place : ℕ) (m n : Name) → slice_get xs at ≡ Some (On m) → place ≡ length (filter_map named (take at xs)) → ((i : ℕ) → slice_get (filter_map named (take at xs)) i ≡ Some n → ⊥) → (m ≡ n → ⊥)
    → (place + 1 ≡ length (filter_map named (take (at + 1) xs))) × ((i : ℕ) → slice_get (filter_map named (take (at + 1) xs)) i ≡ Some n → ⊥)
named_more xs at place m n h p none other =
    let k : filter_map named (take (at + 1) xs) ≡ filter_map named (take at xs) ++ (m ∷ []) = kept_more named xs at (On m) (Some m) h refl in
    let a : length (filter_map named (take at xs) ++ (m ∷ [])) ≡ length (filter_map named (take at xs)) + 1 = length-append (filter_map named (take at xs)) (m ∷ []) in
    rw k (omega (arith, a, p), not_pushed (filter_map named (take at xs)) m n none other)

-- one trigger more, which names nothing
pub nothing_more : (xs : List Trigger) (at : ℕ) (x : Trigger) → slice_get xs at ≡ Some x → ((m : Name) → x ≡ On m → ⊥) → filter_map named (take (at + 1) xs) ≡ filter_map named (take at xs)
nothing_more xs at x h other = kept_more named xs at x None h (sym (unnamed x other)) ∙ append-nil (filter_map named (take at xs))
  where
    unnamed : (x : Trigger) → ((m : Name) → x ≡ On m → ⊥) → named x ≡ None
    unnamed Startup other = refl
    unnamed Shutdown other = refl
    unnamed (Timer t) other = refl
    unnamed (On m) other = absurd (other m refl)

-- what stands in none of the lists that were looked through is no input
pub no_input : (x : Reaction) (xs : List Trigger) (us : List Name) (at stop : ℕ) (n : Name) → xs ≡ x.triggers → us ≡ x.uses → length xs ≤ at → length us ≤ stop
    → ((i : ℕ) → slice_get (filter_map named (take at xs)) i ≡ Some n → ⊥) → ((j : ℕ) → j < stop → slice_get us j ≡ Some n → ⊥) → (i : ℕ) → slice_get (inputs x) i ≡ Some n → ⊥
no_input x xs us at stop n e f past end none other i h =
    let all : take at xs ≡ xs = take_all at xs past in
    let here : slice_get (filter_map named xs ++ us) i ≡ Some n = rw (e, f) h in
    in_neither (filter_map named xs) us n (rw all at none) (λ j k. let w = slice_get_within us j n k in other j (omega arith) k) i here
