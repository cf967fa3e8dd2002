-- The entries of an ordered map, as a map from tag and name to value.
use Rattle.std.proofs.Common.{◌≡◌, ◌∙◌, ◌⊎◌, inl, inr, ◌<◌, ℕ, zero, suc, List, [], ◌∷◌, length, map, get_or, Option, Some, slice_get, refl, sym, ap, subst, arith, Bool, true, false, cond, ◌&&◌, ◌==◌, Contains}
use Rattle.std.specs.{List.{AllByRecursion, filter, Sorted.IsStrictlySortedBy}, BTreeMap.{insert_entry, is_at}, Map.{keys_of, lookup}}
use Rattle.std.specs.{Prelude.{Result, OnOk, OnErr}, Option.unwrap_or}
use Rattle.std.specs.declared.{result.Result.TheVariants.{Ok, Err}, cmp.Ordering.{Ordering, TheVariants.{Less, Equal, Greater}}}
use Rattle.std.specs.Ordering.{is_eq, match_ordering, nat_cmp, bool_cmp, ordering_then}
use Rattle.std.proofs.lemmas.{Bool.Decides.nat_tests, Map.Lookups.exact_unsigned}
use Rattle.lft_tag.{specs.{declared.Tag.Tag, Tags.UpTo}, proofs.{Comparing.{less_nat, less_then, both_equal}, Order.UpTo-refl}}
use Rattle.lft_ir.specs.declared.parts.{Value.Value, Name.{Name, TheVariants.{Port, Action}}}
use Rattle.lft_queue.specs.{Pending.{Pending, same_key, value_of, Becomes, IsMap}, inner.Keys.{Key, key_of, key_tag, name_of, pending_at, key_cmp}}

eq_nat : (a b : ℕ) → is_eq (nat_cmp a b) ≡ (a == b)
eq_nat a b = grind (arith, nat_tests)

eq_then : (o q : Ordering) → is_eq (ordering_then o q) ≡ is_eq o && is_eq q
eq_then Less q = refl
eq_then Equal q = refl
eq_then Greater q = refl

both_false : (b c : Bool) → (b && false) && c ≡ b && false
both_false true c = refl
both_false false c = refl

both_last : (b c : Bool) → (b && true) && c ≡ b && c
both_last true c = refl
both_last false c = refl

-- the test of the first two parts of a key
same_parts : (a b c d : ℕ) → is_eq (ordering_then (nat_cmp a c) (nat_cmp b d)) ≡ (a == c) && (b == d)
same_parts a b c d = rw (eq_then (nat_cmp a c) (nat_cmp b d), eq_nat a c, eq_nat b d) refl

parts_then : (a b c d : ℕ) (o q : Ordering) → is_eq (ordering_then (ordering_then (ordering_then (nat_cmp a c) (nat_cmp b d)) o) q) ≡ (((a == c) && (b == d)) && is_eq o) && is_eq q
parts_then a b c d o q = rw (eq_then (ordering_then (ordering_then (nat_cmp a c) (nat_cmp b d)) o) q, eq_then (ordering_then (nat_cmp a c) (nat_cmp b d)) o, same_parts a b c d) refl

-- two keys are the same where tag and name are
pub at_key : (g : Tag) (n : Name) (k : Key) → is_at (key_cmp (key_of g n)) k ≡ same_key g n (key_tag k) (name_of k.2 k.3)
at_key g (Port p) k = parts_then g.time g.micro k.0 k.1 (bool_cmp false k.2) (nat_cmp p k.3) ∙ by k.2
  where
    by : (b : Bool) → (((g.time == k.0) && (g.micro == k.1)) && is_eq (bool_cmp false b)) && is_eq (nat_cmp p k.3) ≡ same_key g (Port p) (key_tag k) (name_of b k.3)
    by true = both_false ((g.time == k.0) && (g.micro == k.1)) (is_eq (nat_cmp p k.3))
    by false = both_last ((g.time == k.0) && (g.micro == k.1)) (is_eq (nat_cmp p k.3)) ∙ ap (λ (c : Bool). ((g.time == k.0) && (g.micro == k.1)) && c) (eq_nat p k.3)
at_key g (Action a) k = parts_then g.time g.micro k.0 k.1 (bool_cmp true k.2) (nat_cmp a k.3) ∙ by k.2
  where
    by : (b : Bool) → (((g.time == k.0) && (g.micro == k.1)) && is_eq (bool_cmp true b)) && is_eq (nat_cmp a k.3) ≡ same_key g (Action a) (key_tag k) (name_of b k.3)
    by true = both_last ((g.time == k.0) && (g.micro == k.1)) (is_eq (nat_cmp a k.3)) ∙ ap (λ (c : Bool). ((g.time == k.0) && (g.micro == k.1)) && c) (eq_nat a k.3)
    by false = both_false ((g.time == k.0) && (g.micro == k.1)) (is_eq (nat_cmp a k.3))

pub at_name : (g : Tag) (n : Name) (h : Tag) (m : Name) → is_at (key_cmp (key_of g n)) (key_of h m) ≡ same_key g n h m
at_name g n h (Port p) = at_key g n (key_of h (Port p))
at_name g n h (Action a) = at_key g n (key_of h (Action a))

-- a look-up among the entries is one among the events
pub value_found : (g : Tag) (n : Name) (es : List (Key × Value)) → value_of g n (map pending_at es) ≡ lookup (is_at (key_cmp (key_of g n))) es
value_found g n [] = refl
value_found g n (e ∷ es) = ap (λ (b : Bool). cond b (Some e.1) (value_of g n (map pending_at es))) (sym (at_key g n e.0)) ∙ ap (λ (o : Option Value). cond (is_at (key_cmp (key_of g n)) e.0) (Some e.1) o) (value_found g n es)

-- entries that change at one key change the map there
pub becomes : (old new : List (Key × Value)) (g : Tag) (n : Name) (o : Option Value) → ((q : Key) → lookup (is_at (key_cmp q)) new ≡ cond (is_at (key_cmp (key_of g n)) q) o (lookup (is_at (key_cmp q)) old)) → Becomes (map pending_at old) (map pending_at new) g n o
becomes old new g n o h t m = value_found t m new ∙ h (key_of t m) ∙ ap (λ (b : Bool). cond b o (lookup (is_at (key_cmp (key_of t m))) old)) (at_name g n t m) ∙ ap (λ (v : Option Value). cond (same_key g n t m) o v) (sym (value_found t m old))

-- the same for the key of a tag and a name, and entries that are seen as some events
module _ (key : Key) (g : Tag) (n : Name) (is : key ≡ key_of g n) (es : List (Key × Value)) (now : List Pending) (seen : map pending_at es ≡ now) where
  pub found_at : lookup (is_at (key_cmp key)) es ≡ value_of g n now
  found_at = ap (λ (k : Key). lookup (is_at (key_cmp k)) es) is ∙ sym (value_found g n es) ∙ ap (λ (xs : List Pending). value_of g n xs) seen

  pub becomes_at : (new : List (Key × Value)) (o : Option Value) → ((q : Key) → lookup (is_at (key_cmp q)) new ≡ cond (is_at (key_cmp key) q) o (lookup (is_at (key_cmp q)) es)) → Becomes now (map pending_at new) g n o
  becomes_at new o h = subst (λ (xs : List Pending). Becomes xs (map pending_at new) g n o) seen (becomes es new g n o (subst (λ (k : Key). (q : Key) → lookup (is_at (key_cmp q)) new ≡ cond (is_at (key_cmp k) q) o (lookup (is_at (key_cmp q)) es)) is h))

-- an insertion where the key is there isn't refused
pub inserted : {A E : Type 0} (r : Result A E) {P N : Type 0} → OnOk r P → OnErr r N → (N → ⊥) → P
inserted (Ok a) p n there = p
inserted (Err e) p n there = absurd (there n)

-- where a key is there, its value from before puts all entries back as they were
pub put_back : {K X : Type 0} (cmp : K → K → Ordering) (es : List (K × X)) (k : K) (v first : X) → lookup (is_at (cmp k)) es ≡ Some first → length (insert_entry cmp es k v) ≡ length es → insert_entry cmp (insert_entry cmp es k v) k first ≡ es
put_back cmp [] k v first there same = cc (there)
put_back {K = K} {X = X} cmp (e ∷ es) k v first there same = by (cmp k e.0) refl there same (put_back cmp es k v first)
  where
    by : (o : Ordering) → cmp k e.0 ≡ o → cond (is_eq o) (Some e.1) (lookup (is_at (cmp k)) es) ≡ Some first → length (match_ordering o ((k, v) ∷ e ∷ es) ((e.0, v) ∷ es) (e ∷ insert_entry cmp es k v)) ≡ suc (length es) → (lookup (is_at (cmp k)) es ≡ Some first → length (insert_entry cmp es k v) ≡ length es → insert_entry cmp (insert_entry cmp es k v) k first ≡ es) → insert_entry cmp (insert_entry cmp (e ∷ es) k v) k first ≡ e ∷ es
    by Less q t s rest = absurd (omega arith)
    by Equal q t s rest = rw q (rw q (ap (λ (x : X). (e.0, x) ∷ es) (ap (λ (o : Option X). unwrap_or o first) (sym t))))
    by Greater q t s rest = rw q (rw q (ap (λ (xs : List (K × X)). e ∷ xs) (rest t (omega arith))))

-- events that pass a test are those of the entries that do
pub kept : (p : Pending → Bool) (es : List (Key × Value)) → map pending_at (filter (λ e. p (pending_at e)) es) ≡ filter p (map pending_at es)
kept p [] = refl
kept p (e ∷ es) = go (p (pending_at e)) (kept p es)
  where
    go : (b : Bool) → map pending_at (filter (λ x. p (pending_at x)) es) ≡ filter p (map pending_at es) → map pending_at (cond b (e ∷ filter (λ x. p (pending_at x)) es) (filter (λ x. p (pending_at x)) es)) ≡ cond b (pending_at e ∷ filter p (map pending_at es)) (filter p (map pending_at es))
    go true q = ap (λ (xs : List Pending). pending_at e ∷ xs) q
    go false q = q

-- a key is that of its tag and name
key_back : (k : Key) → key_of (key_tag k) (name_of k.2 k.3) ≡ k
key_back k = go k.2 refl
  where
    go : (b : Bool) → k.2 ≡ b → key_of (key_tag k) (name_of b k.3) ≡ k
    go true e = λ i. (k.0, k.1, sym e i, k.3)
    go false e = λ i. (k.0, k.1, sym e i, k.3)

less_apart : (o : Ordering) → o ≡ Less → is_eq o ≡ false
less_apart Less e = refl
less_apart Equal e = cc (e)
less_apart Greater e = refl

-- keys in order differ
apart : (p q : Key × Value) → key_cmp p.0 q.0 ≡ Less → same_key (pending_at p).tag (pending_at p).name (pending_at q).tag (pending_at q).name ≡ false
apart p q h = sym (at_key (key_tag p.0) (name_of p.0.2 p.0.3) q.0) ∙ ap (λ (k : Key). is_eq (key_cmp k q.0)) (key_back p.0) ∙ less_apart (key_cmp p.0 q.0) h

all_apart : (p : Key × Value) (es : List (Key × Value)) → AllByRecursion (λ y. key_cmp p.0 y ≡ Less) (keys_of es) → (j : ℕ) (d : Pending) → j < length (map pending_at es) → same_key (pending_at p).tag (pending_at p).name (get_or (map pending_at es) j d).tag (get_or (map pending_at es) j d).name ≡ false
all_apart p [] h j d lt = absurd (omega arith)
all_apart p (q ∷ es) h zero d lt = apart p q h.0
all_apart p (q ∷ es) h (suc j) d lt = all_apart p es h.1 j d (omega arith)

-- so no tag and name stand twice
pub is_map : (es : List (Key × Value)) → IsStrictlySortedBy key_cmp (keys_of es) → IsMap (map pending_at es)
unfolding IsStrictlySortedBy
is_map [] h i j d lt len = absurd (omega arith)
is_map (p ∷ es) h zero zero d lt len = absurd (omega arith)
is_map (p ∷ es) h zero (suc j) d lt len = all_apart p es h.0 j d (omega arith)
is_map (p ∷ es) h (suc i) zero d lt len = absurd (omega arith)
is_map (p ∷ es) h (suc i) (suc j) d lt len = is_map es h.1 i j d (omega arith) (omega arith)

-- keys in order have tags in order
pub follows : (j k : Key) → key_cmp j k ≡ Less → UpTo (key_tag j) (key_tag k)
follows j k h = by_last (less_then (ordering_then (ordering_then (nat_cmp j.0 k.0) (nat_cmp j.1 k.1)) (bool_cmp j.2 k.2)) (nat_cmp j.3 k.3) h)
  where
    equal : ordering_then (nat_cmp j.0 k.0) (nat_cmp j.1 k.1) ≡ Equal → UpTo (key_tag j) (key_tag k)
    equal e = let p = both_equal (nat_cmp j.0 k.0) (nat_cmp j.1 k.1) e in let a : j.0 ≡ k.0 = exact_unsigned j.0 k.0 p.0 in let b : j.1 ≡ k.1 = exact_unsigned j.1 k.1 p.1 in inr (a, omega arith)

    less : ordering_then (nat_cmp j.0 k.0) (nat_cmp j.1 k.1) ≡ Less → UpTo (key_tag j) (key_tag k)
    less e = elim (less_then (nat_cmp j.0 k.0) (nat_cmp j.1 k.1) e) [
      | inl a ↦ inl (less_nat j.0 k.0 a)
      | inr b ↦ let c : j.1 < k.1 = less_nat j.1 k.1 b.1 in inr (exact_unsigned j.0 k.0 b.0, omega arith)
    ]

    by_kind : ordering_then (ordering_then (nat_cmp j.0 k.0) (nat_cmp j.1 k.1)) (bool_cmp j.2 k.2) ≡ Less → UpTo (key_tag j) (key_tag k)
    by_kind e = elim (less_then (ordering_then (nat_cmp j.0 k.0) (nat_cmp j.1 k.1)) (bool_cmp j.2 k.2) e) [
      | inl a ↦ less a
      | inr b ↦ equal b.0
    ]

    by_last : (ordering_then (ordering_then (nat_cmp j.0 k.0) (nat_cmp j.1 k.1)) (bool_cmp j.2 k.2) ≡ Less) ⊎ ((ordering_then (ordering_then (nat_cmp j.0 k.0) (nat_cmp j.1 k.1)) (bool_cmp j.2 k.2) ≡ Equal) × (nat_cmp j.3 k.3 ≡ Less)) → UpTo (key_tag j) (key_tag k)
    by_last (inl a) = by_kind a
    by_last (inr b) = equal (both_equal (ordering_then (nat_cmp j.0 k.0) (nat_cmp j.1 k.1)) (bool_cmp j.2 k.2) b.0).0

-- and so have keys that are the same
pub equal_up : (j k : Key) → key_cmp j k ≡ Equal → UpTo (key_tag j) (key_tag k)
equal_up j k e =
    let p = both_equal (ordering_then (ordering_then (nat_cmp j.0 k.0) (nat_cmp j.1 k.1)) (bool_cmp j.2 k.2)) (nat_cmp j.3 k.3) e in
    let q = both_equal (ordering_then (nat_cmp j.0 k.0) (nat_cmp j.1 k.1)) (bool_cmp j.2 k.2) p.0 in
    let r = both_equal (nat_cmp j.0 k.0) (nat_cmp j.1 k.1) q.0 in
    let b : j.1 ≡ k.1 = exact_unsigned j.1 k.1 r.1 in
    inr (exact_unsigned j.0 k.0 r.0, omega arith)

all_later : (k : Key) (es : List (Key × Value)) → AllByRecursion (λ y. key_cmp k y ≡ Less) (keys_of es) → (j : ℕ) (d : Pending) → j < length (map pending_at es) → UpTo (key_tag k) (get_or (map pending_at es) j d).tag
all_later k [] h j d lt = absurd (omega arith)
all_later k (q ∷ es) h zero d lt = follows k q.0 h.0
all_later k (q ∷ es) h (suc j) d lt = all_later k es h.1 j d (omega arith)

-- the first entry has the least tag
pub first_least : (es : List (Key × Value)) (k : Key) (v : Value) → slice_get es 0 ≡ Some (k, v) → IsStrictlySortedBy key_cmp (keys_of es) → (e : Pending) → Contains (map pending_at es) e → UpTo (key_tag k) e.tag
unfolding IsStrictlySortedBy
first_least [] k v f h e c = cc (f)
first_least (p ∷ es) k v f h e c = subst (λ (j : Key). UpTo (key_tag j) e.tag) is_first (at c.0 c.1 c.2)
  where
    is_first : p.0 ≡ k
    is_first = let q : p ≡ (k, v) = cc (f) in ap (λ (x : Key × Value). x.0) q

    at : (j : ℕ) → j < length (map pending_at (p ∷ es)) → get_or (map pending_at (p ∷ es)) j e ≡ e → UpTo (key_tag p.0) e.tag
    at zero lt q = subst (λ (x : Pending). UpTo (key_tag p.0) x.tag) q (UpTo-refl (key_tag p.0))
    at (suc j) lt q = subst (λ (x : Pending). UpTo (key_tag p.0) x.tag) q (all_later p.0 es h.0 j e (omega arith))

-- and is one of the events
pub first_there : (es : List (Key × Value)) (k : Key) (v : Value) → slice_get es 0 ≡ Some (k, v) → Contains (map pending_at es) (pending_at (k, v))
first_there [] k v f = cc (f)
first_there (p ∷ es) k v f = let q : p ≡ (k, v) = cc (f) in (0, omega arith, ap pending_at q)
