-- The events after a tag, and those that aren't.
use Rattle.std.proofs.Common.{◌≡◌, ◌∙◌, ℕ, ◌+◌, ◌-◌, ◌≤◌, ◌⊎◌, inl, inr, List, [], ◌∷◌, ◌++◌, length, length-append, map, Option, Some, None, IfSome, IfNone, arith, slice_get, refl, sym, ap, subst, Bool, true, false, not, cond, ◌&&◌, All}
use Rattle.std.specs.{Cmp.nat_cmp_is, Ordering.{is_lt, nat_cmp}, List.{AllByRecursion, filter, Sorted.IsStrictlySortedBy}, Map.keys_of}
use Rattle.std.specs.declared.cmp.Ordering.TheVariants.{Less, Equal}
use Rattle.std.proofs.lemmas.{Bool.false≢true, List.Elements.{All-tail, All-head}}
use Rattle.lft_tag.{specs.{declared.Tag.Tag, Tags.{Before, UpTo, is_before, same_tag}}, proofs.Order.{Before-UpTo, UpTo-Before, order_cases, same_tag_true}}
use Rattle.lft_ir.specs.{Naming.same_name, declared.parts.{Name.Name, Value.Value}}
use Rattle.lft_lists.proofs.Places.{get_last, same_some}
use Rattle.lft_queue.specs.{Pending.{Pending, is_after, same_key, value_of}, inner.Keys.{Key, key_tag, pending_at, key_cmp}}
use Rattle.lft_queue.proofs.{Entries.follows, Tests.{test_before, not_before}}

-- where the first is after it, all stay
pub all_kept : (g : Tag) (es : List (Key × Value)) (k : Key) (v : Value) → slice_get es 0 ≡ Some (k, v) → IsStrictlySortedBy key_cmp (keys_of es) → Before g (key_tag k) → map pending_at es ≡ filter (λ x. is_after g x) (map pending_at es)
unfolding IsStrictlySortedBy
all_kept g [] k v f s b = refl
all_kept g (e ∷ es) k v f s b = stays e es first (later es s.0)
  where
    is_first : e ≡ (k, v)
    is_first = let z : Some e ≡ Some (k, v) = f in cc

    first : Before g (key_tag e.0)
    first = subst (λ (x : Key × Value). Before g (key_tag x.0)) (sym is_first) b

    stays : (x : Key × Value) (xs : List (Key × Value)) → Before g (key_tag x.0) → map pending_at xs ≡ filter (λ y. is_after g y) (map pending_at xs) → map pending_at (x ∷ xs) ≡ filter (λ y. is_after g y) (map pending_at (x ∷ xs))
    stays x xs a q = ap (λ (ps : List Pending). pending_at x ∷ ps) q ∙ sym (ap (λ (c : Bool). cond c (pending_at x ∷ filter (λ y. is_after g y) (map pending_at xs)) (filter (λ y. is_after g y) (map pending_at xs))) (test_before g (key_tag x.0) a))

    later : (fs : List (Key × Value)) → AllByRecursion (λ y. key_cmp e.0 y ≡ Less) (keys_of fs) → map pending_at fs ≡ filter (λ x. is_after g x) (map pending_at fs)
    later [] a = refl
    later (x ∷ fs) a = stays x fs (Before-UpTo g (key_tag e.0) (key_tag x.0) first (follows e.0 x.0 a.0)) (later fs a.1)

-- keys are in order where their tags are
less_by_tag : (j k : Key) → Before (key_tag j) (key_tag k) → is_lt (key_cmp j k) ≡ true
less_by_tag j k (inl l) = let e : nat_cmp j.0 k.0 ≡ Less = sym (nat_cmp_is j.0 k.0 Less l) in rw e refl
less_by_tag j k (inr p) = let e : nat_cmp j.0 k.0 ≡ Equal = sym (nat_cmp_is j.0 k.0 Equal p.0) in let f : nat_cmp j.1 k.1 ≡ Less = sym (nat_cmp_is j.1 k.1 Less p.1) in rw (e, f) refl

-- a last one that is after the tag doesn't stay
pub last_dropped : (g : Tag) (e : Key × Value) (es : List (Key × Value)) → Before g (key_tag e.0) → filter (λ x. not (is_after g x)) (map pending_at (es ++ e ∷ [])) ≡ filter (λ x. not (is_after g x)) (map pending_at es)
last_dropped g e [] b = ap (λ (t : Bool). cond (not t) (pending_at e ∷ []) []) (test_before g (key_tag e.0) b)
last_dropped g e (x ∷ es) b = ap (λ (ys : List Pending). cond (not (is_before g (key_tag x.0))) (pending_at x ∷ ys) ys) (last_dropped g e es b)

-- where a key that none is after isn't after the tag, all stay
pub none_after : (g : Tag) (k : Key) (es : List (Key × Value)) → All (λ q. is_lt (key_cmp k q) ≡ false) (keys_of es) → ¬ Before g (key_tag k) → map pending_at es ≡ filter (λ x. not (is_after g x)) (map pending_at es)
none_after g k [] all n = refl
none_after g k (e ∷ es) all n = ap (λ (ys : List Pending). pending_at e ∷ ys) (none_after g k es (All-tail (λ q. is_lt (key_cmp k q) ≡ false) e.0 (keys_of es) all) n) ∙ sym (ap (λ (t : Bool). cond (not t) (pending_at e ∷ rest) rest) (not_before g (key_tag e.0) early))
  where
    rest : List Pending
    rest = filter (λ x. not (is_after g x)) (map pending_at es)

    up : Before g (key_tag k) ⊎ UpTo (key_tag k) g → UpTo (key_tag k) g
    up (inl b) = absurd (n b)
    up (inr u) = u

    early : ¬ Before g (key_tag e.0)
    early b = absurd (false≢true (sym (All-head (λ q. is_lt (key_cmp k q) ≡ false) e.0 (keys_of es) all) ∙ less_by_tag k e.0 (UpTo-Before (key_tag k) g (key_tag e.0) (up (order_cases g (key_tag k))) b)))

-- where the last one is taken out and was after the tag, what is to stay is what was to stay
pub last_taken : (g : Tag) (o : Option (Key × Value)) (old new : List (Key × Value)) (k : Key) (v : Value) → IfSome o (λ p. old ≡ new ++ p ∷ []) → IfNone o (new ≡ old) → slice_get old (length old - 1) ≡ Some (k, v) → Before g (key_tag k) → (filter (λ x. not (is_after g x)) (map pending_at new) ≡ filter (λ x. not (is_after g x)) (map pending_at old)) × (length new ≤ length old)
last_taken g None old new k v some none last b = (ap (λ (es : List (Key × Value)). filter (λ x. not (is_after g x)) (map pending_at es)) none, let e = ap length none in omega arith)
last_taken g (Some p) old new k v some none last b = (sym (last_dropped g p new at_p) ∙ ap (λ (es : List (Key × Value)). filter (λ x. not (is_after g x)) (map pending_at es)) (sym some), omega (arith, longer))
  where
    longer : length old ≡ length new + 1
    longer = ap length some ∙ length-append new (p ∷ [])

    there : slice_get old (length old - 1) ≡ Some p
    there = ap (λ (n : ℕ). slice_get old n) (let e : length old - 1 ≡ length new = omega (arith, longer) in e) ∙ ap (λ (es : List (Key × Value)). slice_get es (length new)) some ∙ get_last new p

    same : p ≡ (k, v)
    same = same_some (slice_get old (length old - 1)) p (k, v) there last

    at_p : Before g (key_tag p.0)
    at_p = subst (λ (e : Key × Value). Before g (key_tag e.0)) (sym same) b

-- where the events up to a tag are taken out, the later ones stay
pub later_value : (g h : Tag) (n : Name) → Before g h → (q : List Pending) → value_of h n (filter (λ e. is_after g e) q) ≡ value_of h n q
later_value g h n b [] = refl
later_value g h n b (e ∷ q) = go (is_before g e.tag) refl (later_value g h n b q)
  where
    and_first : (a b : Bool) → (a && b) ≡ true → a ≡ true
    and_first true b z = refl
    and_first false b z = absurd (cc)

    other : (k : Bool) → is_before g e.tag ≡ false → same_key h n e.tag e.name ≡ k → value_of h n q ≡ cond k (Some e.value) (value_of h n q)
    other false s z = refl
    other true s z =
        let p : h ≡ e.tag = same_tag_true h e.tag (and_first (same_tag h e.tag) (same_name n e.name) z) in
        absurd (false≢true (sym s ∙ test_before g e.tag (subst (λ (k : Tag). Before g k) p b)))

    go : (k : Bool) → is_before g e.tag ≡ k → value_of h n (filter (λ d. is_after g d) q) ≡ value_of h n q → value_of h n (cond k (e ∷ filter (λ d. is_after g d) q) (filter (λ d. is_after g d) q)) ≡ cond (same_key h n e.tag e.name) (Some e.value) (value_of h n q)
    go true s rest = ap (λ (o : Option Value). cond (same_key h n e.tag e.name) (Some e.value) o) rest
    go false s rest = rest ∙ other (same_key h n e.tag e.name) s refl
