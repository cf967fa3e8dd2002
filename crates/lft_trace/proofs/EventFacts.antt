-- Entries of a map of events: what an insertion adds, and their order.
use Rattle.std.proofs.Common.{◌≡◌, ◌∙◌, ◌⊎◌, inl, inr, ◌<◌, ℕ, zero, suc, List, [], ◌∷◌, length, map, get_or, Option, Some, None, slice_get, refl, sym, ap, subst, arith, cond}
use Rattle.std.specs.{BTreeMap.{insert_entry, is_at}, List.{AllByRecursion, Sorted.{IsPermutation, IsStrictlySortedBy}}, Map.{keys_of, lookup}}
use Rattle.std.specs.{declared.cmp.Ordering.{Ordering, TheVariants.{Less, Equal, Greater}}, Ordering.{is_eq, match_ordering, nat_cmp, ordering_then}}
use Rattle.std.specs.Cmp.{Equal-is}
use Rattle.std.proofs.lemmas.List.Sorted.{IsPermutation-cons, IsPermutation-middle, IsPermutation-refl, IsPermutation-sym, IsPermutation-trans}
use Rattle.std.proofs.lemmas.{Bool.Decides.nat_tests, Map.{Entries.place_from_lookup, Lookups.exact_unsigned}}
use Rattle.lft_ir.specs.{declared.{parts.Value.Value, steps.externals.Event.Event}, Steps.Inputs.InOrder}
use Rattle.lft_trace.specs.{ExternalTables.{Clash, Has}, inner.Keys.event_at}
use Rattle.lft_tag.{specs.{declared.Tag.Tag, Tags.Before}, proofs.Comparing.{less_nat, less_then, both_equal}}

abbrev pub Key : Type 0
Key = ℕ × ℕ × ℕ

abbrev pub key_cmp : Key → Key → Ordering
key_cmp x y = ordering_then (ordering_then (nat_cmp x.0 y.0) (nat_cmp x.1 y.1)) (nat_cmp x.2 y.2)

itself : (a : ℕ) → nat_cmp a a ≡ Equal
itself a = grind (arith, nat_tests)

pub has_none : (e : Event) → Has [] e → ⊥
has_none e h = let x = h.1 in cc (x)

pub has_cons : (x e : Event) (xs : List Event) → Has (x ∷ xs) e → (x ≡ e) ⊎ Has xs e
has_cons x e xs h = at h.0 h.1
  where
    at : (i : ℕ) → slice_get (x ∷ xs) i ≡ Some e → (x ≡ e) ⊎ Has xs e
    at zero s = inl (cc (s))
    at (suc i) s = inr (i, s)

pub has_head : (x : Event) (xs : List Event) → Has (x ∷ xs) x
has_head x xs = (0, refl)

pub has_tail : (x e : Event) (xs : List Event) → Has xs e → Has (x ∷ xs) e
has_tail x e xs h = (suc h.0, h.1)

has_map : (es : List (Key × Value)) (i : ℕ) (p : Key × Value) → slice_get es i ≡ Some p → Has (map event_at es) (event_at p)
has_map [] i p h = cc (h)
has_map (q ∷ es) zero p h = let e : q ≡ p = cc (h) in subst (λ (x : Key × Value). Has (map event_at (q ∷ es)) (event_at x)) e (has_head (event_at q) (map event_at es))
has_map (q ∷ es) (suc i) p h = has_tail (event_at q) (event_at p) (map event_at es) (has_map es i p h)

same_key : (j k : Key) → key_cmp j k ≡ Equal → (j.0 ≡ k.0) × (j.1 ≡ k.1) × (j.2 ≡ k.2)
same_key j k h =
    let a = both_equal (ordering_then (nat_cmp j.0 k.0) (nat_cmp j.1 k.1)) (nat_cmp j.2 k.2) h in
    let b = both_equal (nat_cmp j.0 k.0) (nat_cmp j.1 k.1) a.0 in
    (exact_unsigned j.0 k.0 b.0, exact_unsigned j.1 k.1 b.1, exact_unsigned j.2 k.2 a.1)

key_itself : (j k : Key) → j.0 ≡ k.0 → j.1 ≡ k.1 → j.2 ≡ k.2 → key_cmp j k ≡ Equal
key_itself j k a b c = rw (a, b, c, itself k.0, itself k.1) (itself k.2)

pub found : (es : List (Key × Value)) (e : Event) (w : Value) → lookup (is_at (key_cmp (e.tag.time, e.tag.micro, e.action))) es ≡ Some w → (d : Event) × Has (map event_at es) d × Clash d e
found es e w h =
    let p = place_from_lookup (is_at (key_cmp (e.tag.time, e.tag.micro, e.action))) es w h in
    let s = same_key (e.tag.time, e.tag.micro, e.action) p.1 ((Equal-is (key_cmp (e.tag.time, e.tag.micro, e.action) p.1)).0 p.3) in
    (event_at (p.1, w), has_map es p.0 (p.1, w) p.2, (λ i. record { time = sym s.0 i; micro = sym s.1 i }, sym s.2))

missed : (o : Ordering) (v : Value) (rest : Option Value) → cond (is_eq o) (Some v) rest ≡ None → (o ≡ Equal → ⊥) × (rest ≡ None)
missed Less v rest h = (λ e. cc (e), h)
missed Equal v rest h = cc (h)
missed Greater v rest h = (λ e. cc (e), h)

pub apart : (es : List (Key × Value)) (e d : Event) → lookup (is_at (key_cmp (e.tag.time, e.tag.micro, e.action))) es ≡ None → Has (map event_at es) d → Clash d e → ⊥
apart [] e d none h same = has_none d h
apart (p ∷ es) e d none h same =
    let m = missed (key_cmp (e.tag.time, e.tag.micro, e.action) p.0) p.1 (lookup (is_at (key_cmp (e.tag.time, e.tag.micro, e.action))) es) none in
    elim (has_cons (event_at p) d (map event_at es) h) [
      | inl s ↦ m.0 (key_itself (e.tag.time, e.tag.micro, e.action) p.0
          (let t : d.tag.time ≡ e.tag.time = ap (λ (g : Tag). g.time) same.0 in let u : p.0.0 ≡ d.tag.time = ap (λ (x : Event). x.tag.time) s in sym (u ∙ t))
          (let t : d.tag.micro ≡ e.tag.micro = ap (λ (g : Tag). g.micro) same.0 in let u : p.0.1 ≡ d.tag.micro = ap (λ (x : Event). x.tag.micro) s in sym (u ∙ t))
          (let u : p.0.2 ≡ d.action = ap (λ (x : Event). x.action) s in sym (u ∙ same.1)))
      | inr t ↦ apart es e d m.1 t same
    ]

added_at : (k : Key) (v : Value) (p : Key × Value) (ps : List (Key × Value)) (o : Ordering) → (o ≡ Equal → ⊥) → IsPermutation (event_at (k, v) ∷ map event_at ps) (map event_at (insert_entry key_cmp ps k v))
    → IsPermutation (event_at (k, v) ∷ event_at p ∷ map event_at ps) (map event_at (match_ordering o ((k, v) ∷ p ∷ ps) ((p.0, v) ∷ ps) (p ∷ insert_entry key_cmp ps k v)))
added_at k v p ps Less other more = IsPermutation-refl (event_at (k, v) ∷ event_at p ∷ map event_at ps)
added_at k v p ps Equal other more = absurd (other refl)
added_at k v p ps Greater other more =
    let x = event_at (k, v) in
    let y = event_at p in
    let swapped : IsPermutation (x ∷ y ∷ map event_at ps) (y ∷ x ∷ map event_at ps) = IsPermutation-sym (y ∷ x ∷ map event_at ps) (x ∷ y ∷ map event_at ps) (IsPermutation-middle (y ∷ []) x (map event_at ps)) in
    IsPermutation-trans (x ∷ y ∷ map event_at ps) (y ∷ x ∷ map event_at ps) (y ∷ map event_at (insert_entry key_cmp ps k v)) swapped
    (IsPermutation-cons y (x ∷ map event_at ps) (map event_at (insert_entry key_cmp ps k v)) more)

pub inserted : (es : List (Key × Value)) (k : Key) (v : Value) → lookup (is_at (key_cmp k)) es ≡ None → IsPermutation (event_at (k, v) ∷ map event_at es) (map event_at (insert_entry key_cmp es k v))
inserted [] k v none = IsPermutation-refl (event_at (k, v) ∷ [])
inserted (p ∷ ps) k v none =
    let m = missed (key_cmp k p.0) p.1 (lookup (is_at (key_cmp k)) ps) none in
    added_at k v p ps (key_cmp k p.0) m.0 (inserted ps k v m.1)

abbrev Follows : Event → Event → Type 0
Follows x y = Before x.tag y.tag ⊎ ((x.tag ≡ y.tag) × (x.action < y.action))

follows : (p q : Key × Value) → key_cmp p.0 q.0 ≡ Less → Follows (event_at p) (event_at q)
follows p q h = elim (less_then (ordering_then (nat_cmp p.0.0 q.0.0) (nat_cmp p.0.1 q.0.1)) (nat_cmp p.0.2 q.0.2) h) [
  | inl a ↦ elim (less_then (nat_cmp p.0.0 q.0.0) (nat_cmp p.0.1 q.0.1) a) [
    | inl b ↦ inl (inl (less_nat p.0.0 q.0.0 b))
    | inr b ↦ inl (inr (exact_unsigned p.0.0 q.0.0 b.0, less_nat p.0.1 q.0.1 b.1))
  ]
  | inr a ↦
      let b = both_equal (nat_cmp p.0.0 q.0.0) (nat_cmp p.0.1 q.0.1) a.0 in
      inr (λ i. record { time = exact_unsigned p.0.0 q.0.0 b.0 i; micro = exact_unsigned p.0.1 q.0.1 b.1 i }, less_nat p.0.2 q.0.2 a.1)
]

all_follow : (p : Key × Value) (es : List (Key × Value)) → AllByRecursion (λ y. key_cmp p.0 y ≡ Less) (keys_of es) → (j : ℕ) (d : Event) → j < length (map event_at es) → Follows (event_at p) (get_or (map event_at es) j d)
all_follow p [] h j d lt = absurd (omega arith)
all_follow p (q ∷ es) h zero d lt = follows p q h.0
all_follow p (q ∷ es) h (suc j) d lt = all_follow p es h.1 j d (omega arith)

pub ordered : (es : List (Key × Value)) → IsStrictlySortedBy key_cmp (keys_of es) → InOrder (map event_at es)
unfolding IsStrictlySortedBy
ordered [] h i j d lt len = absurd (omega arith)
ordered (p ∷ es) h zero zero d lt len = absurd (omega arith)
ordered (p ∷ es) h zero (suc j) d lt len = all_follow p es h.0 j d (omega arith)
ordered (p ∷ es) h (suc i) zero d lt len = absurd (omega arith)
ordered (p ∷ es) h (suc i) (suc j) d lt len = ordered es h.1 i j d (omega arith) (omega arith)
