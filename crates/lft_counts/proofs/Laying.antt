-- Orders laid out, one reaction after another.
use Rattle.std.proofs.Common.{◌≡◌, ℕ, zero, suc, map, take, ◌+◌, ◌<◌, ◌≤◌, ◌⊎◌, inl, inr, List, [], ◌∷◌, ◌++◌, length, length-append, Option, Some, None, replicate, sym, ap, ◌∙◌, subst, arith, slice_get, append-nil, append_assoc, add-one, refl}
use native.Mathlib.Decide.{dec_lt}
use Rattle.lft_lists.proofs.{Mapped.mapped_from, Places.{get_left, get_push_cases, get_append_cases, get_there, contains_at, get_same, length_same}}
use Rattle.lft_model.proofs.Places.{slice_get_within}
use Rattle.lft_counts.specs.{declared.orders.{Order.Order, Last.Last, Orders.Orders}, Orders.{IsLast, MeetsAt, ApartAt, Stands, unmet, orders_from, cleared}}
use Rattle.lft_graph.specs.{Counts.{Count, none}, Before.{IsBefore, IsDeclaredJustBefore, FeedsLast}}
use Rattle.lft_ir.specs.{Parts.Parts, declared.steps.row.Row.Row}

-- the orders of the reactions below r
pub record Laying (n r : ℕ) (all : List Order) (begins : List ℕ) : Type 0 where
  pub as_long : length begins ≡ r + 1
  pub last : (b : ℕ) → slice_get begins r ≡ Some b → b ≡ length all
  pub first : (k : ℕ) (x : Order) → slice_get all k ≡ Some x → x.first < n
  pub below : (k : ℕ) (x : Order) → slice_get all k ≡ Some x → x.then < r
  pub unmet : (k : ℕ) (x : Order) → slice_get all k ≡ Some x → (x.both ≡ 0) × (x.apart ≡ 0)
  pub ends : (q b : ℕ) → slice_get begins q ≡ Some b → b ≤ length all
  pub there : (k q b e : ℕ) (x : Order) → slice_get all k ≡ Some x → slice_get begins q ≡ Some b → slice_get begins (q + 1) ≡ Some e → b ≤ k → k < e → x.then ≡ q
  pub back : (k q b e : ℕ) (x : Order) → slice_get all k ≡ Some x → slice_get begins q ≡ Some b → slice_get begins (q + 1) ≡ Some e → x.then ≡ q → (b ≤ k) × (k < e)

-- orders of reaction r that aren't met yet stand behind others
pub record IsPushed (n r : ℕ) (old new : List Order) : Type 0 where
  pub longer : length old ≤ length new
  pub kept : (k : ℕ) → k < length old → slice_get new k ≡ slice_get old k
  pub first : (k : ℕ) (x : Order) → length old ≤ k → slice_get new k ≡ Some x → x.first < n
  pub then : (k : ℕ) (x : Order) → length old ≤ k → slice_get new k ≡ Some x → x.then ≡ r
  pub unmet_still : (k : ℕ) (x : Order) → length old ≤ k → slice_get new k ≡ Some x → (x.both ≡ 0) × (x.apart ≡ 0)

-- so it is behind the orders of a short list
pub pushed : (n r : ℕ) (old : List Order) (list : List ℕ) → ((k a : ℕ) → slice_get list k ≡ Some a → a < n) → IsPushed n r old (old ++ map (unmet r) list)
pushed n r old list inside = record {
  longer = let e = length-append old (map (unmet r) list) in omega (arith, e);
  kept = kept;
  first = λ k x l e. let y = from k x l e in subst (λ (z : Order). z.first < n) y.2 (inside y.0 y.1.0 y.1.1);
  then = λ k x l e. let y = from k x l e in ap (λ (z : Order). z.then) (sym y.2);
  unmet_still = λ k x l e. let y = from k x l e in (ap (λ (z : Order). z.both) (sym y.2), ap (λ (z : Order). z.apart) (sym y.2));
}
  where
    kept : (k : ℕ) → k < length old → slice_get (old ++ map (unmet r) list) k ≡ slice_get old k
    kept k l = let y = get_there old k l in get_left old (map (unmet r) list) k y.0 y.1 ∙ sym y.1

    from : (k : ℕ) (x : Order) → length old ≤ k → slice_get (old ++ map (unmet r) list) k ≡ Some x → (j : ℕ) × (y : (a : ℕ) × (slice_get list j ≡ Some a)) × (unmet r y.0 ≡ x)
    from k x l e = go (get_append_cases old (map (unmet r) list) k x e)
      where
        go : (slice_get old k ≡ Some x) ⊎ ((j : ℕ) × (k ≡ length old + j) × (slice_get (map (unmet r) list) j ≡ Some x)) → (j : ℕ) × (y : (a : ℕ) × (slice_get list j ≡ Some a)) × (unmet r y.0 ≡ x)
        go (inl s) = let m = slice_get_within old k x s in absurd (omega (arith, m))
        go (inr y) = let z = mapped_from (unmet r) list y.0 x y.2 in (y.0, (z.0, z.1), z.2)

-- the orders of one more reaction
module _ (n r : ℕ) (all more : List Order) (begins : List ℕ) (so : Laying n r all begins) (now : IsPushed n r all more) where
  old_one : (k : ℕ) (x : Order) → k < length all → slice_get more k ≡ Some x → slice_get all k ≡ Some x
  old_one k x l e = sym (now.kept k l) ∙ e

  pub laying_more : Laying n (r + 1) more (begins ++ length more ∷ [])
  laying_more = record {
    as_long = let s = so.as_long in let l : length (begins ++ length more ∷ []) ≡ length begins + 1 = length-append begins (length more ∷ []) in omega (arith, s, l);
    last = λ b e. last b (get_push_cases begins (length more) (r + 1) b e);
    first = λ k x e. first k x e (dec_lt k (length all));
    below = λ k x e. below k x e (dec_lt k (length all));
    unmet = λ k x e. unmet k x e (dec_lt k (length all));
    ends = λ q b e. ends q b (get_push_cases begins (length more) q b e);
    there = λ k q b e x f g h l m. there k q b e x f (get_push_cases begins (length more) q b g) (get_push_cases begins (length more) (q + 1) e h) l m (dec_lt k (length all));
    back = λ k q b e x f g h s. back k q b e x f (get_push_cases begins (length more) q b g) (get_push_cases begins (length more) (q + 1) e h) s (dec_lt k (length all));
  }
    where
      last : (b : ℕ) → (slice_get begins (r + 1) ≡ Some b) ⊎ ((r + 1 ≡ length begins) × (length more ≡ b)) → b ≡ length more
      last b (inl e) = let l = slice_get_within begins (r + 1) b e in let s = so.as_long in absurd (omega (arith, l, s))
      last b (inr s) = sym s.1

      first : (k : ℕ) (x : Order) → slice_get more k ≡ Some x → Dec (k < length all) → x.first < n
      first k x e (yes l) = so.first k x (old_one k x l e)
      first k x e (no l) = now.first k x (omega arith) e

      below : (k : ℕ) (x : Order) → slice_get more k ≡ Some x → Dec (k < length all) → x.then < r + 1
      below k x e (yes l) = let m = so.below k x (old_one k x l e) in omega (arith, m)
      below k x e (no l) = let m = now.then k x (omega arith) e in omega (arith, m)

      unmet : (k : ℕ) (x : Order) → slice_get more k ≡ Some x → Dec (k < length all) → (x.both ≡ 0) × (x.apart ≡ 0)
      unmet k x e (yes l) = so.unmet k x (old_one k x l e)
      unmet k x e (no l) = now.unmet_still k x (omega arith) e

      ends : (q b : ℕ) → (slice_get begins q ≡ Some b) ⊎ ((q ≡ length begins) × (length more ≡ b)) → b ≤ length more
      ends q b (inl e) = let m = so.ends q b e in let l = now.longer in omega (arith, m, l)
      ends q b (inr s) = let m = s.1 in omega (arith, m)

      there : (k q b e : ℕ) (x : Order) → slice_get more k ≡ Some x → (slice_get begins q ≡ Some b) ⊎ ((q ≡ length begins) × (length more ≡ b)) → (slice_get begins (q + 1) ≡ Some e) ⊎ ((q + 1 ≡ length begins) × (length more ≡ e)) → b ≤ k → k < e → Dec (k < length all) → x.then ≡ q
      there k q b e x f (inl g) (inl h) l m (yes d) = so.there k q b e x (old_one k x d f) g h l m
      there k q b e x f (inl g) (inl h) l m (no d) = let u = so.ends (q + 1) e h in absurd (omega (arith, u))
      there k q b e x f (inl g) (inr s) l m d = let a = s.0 in let c = so.as_long in let i : q ≡ r = omega (arith, a, c) in let u = so.last b (subst (λ j. slice_get begins j ≡ Some b) i g) in now.then k x (omega (arith, u)) f ∙ sym i
      there k q b e x f (inr v) (inl h) l m d = let w = slice_get_within begins (q + 1) e h in let a = v.0 in absurd (omega (arith, w, a))
      there k q b e x f (inr v) (inr s) l m d = let a = v.0 in let c = s.0 in absurd (omega (arith, a, c))

      back : (k q b e : ℕ) (x : Order) → slice_get more k ≡ Some x → (slice_get begins q ≡ Some b) ⊎ ((q ≡ length begins) × (length more ≡ b)) → (slice_get begins (q + 1) ≡ Some e) ⊎ ((q + 1 ≡ length begins) × (length more ≡ e)) → x.then ≡ q → Dec (k < length all) → (b ≤ k) × (k < e)
      back k q b e x f (inl g) (inl h) t (yes d) = so.back k q b e x (old_one k x d f) g h t
      back k q b e x f (inl g) (inl h) t (no d) = let u = now.then k x (omega arith) f in let w = slice_get_within begins (q + 1) e h in let c = so.as_long in absurd (omega (arith, u, w, c, t))
      back k q b e x f (inl g) (inr s) t (yes d) = let u = so.below k x (old_one k x d f) in let a = s.0 in let c = so.as_long in absurd (omega (arith, u, a, c, t))
      back k q b e x f (inl g) (inr s) t (no d) = let a = s.0 in let c = so.as_long in let i : q ≡ r = omega (arith, a, c) in let u = so.last b (subst (λ j. slice_get begins j ≡ Some b) i g) in let w = slice_get_within more k x f in let z = s.1 in (omega (arith, u), omega (arith, w, z))
      back k q b e x f (inr v) (inl h) t d = let w = slice_get_within begins (q + 1) e h in let a = v.0 in absurd (omega (arith, w, a))
      back k q b e x f (inr v) (inr s) t d = let a = v.0 in let c = s.0 in absurd (omega (arith, a, c))

-- what is just before a reaction is one of the program's
pub inside : (program : Parts) (r : ℕ) (list : List ℕ) → IsBefore program r list → (k a : ℕ) → slice_get list k ≡ Some a → a < length program.reactions
inside program r list is k a e = go ((is.members a).0 (contains_at list k a e))
  where
    go : IsDeclaredJustBefore program a r ⊎ FeedsLast program a r → a < length program.reactions
    go (inl d) = slice_get_within program.reactions a d.first d.is_first
    go (inr f) = slice_get_within program.reactions a f.1.writes.writer f.1.writes.is_writer

-- one member more
pub map_next : {X Y : Type 0} (f : X → Y) (xs : List X) (k : ℕ) (x : X) → slice_get xs k ≡ Some x → map f (take (k + 1) xs) ≡ map f (take k xs) ++ f x ∷ []
map_next {X} {Y} f xs k x e = ap (λ n. map f (take n xs)) (add-one k) ∙ go xs k e
  where
    go : (xs : List X) (k : ℕ) → slice_get xs k ≡ Some x → map f (take (suc k) xs) ≡ map f (take k xs) ++ f x ∷ []
    go [] k e = absurd (cc)
    go (y ∷ ys) zero e = let s : y ≡ x = cc in ap (λ z. f z ∷ []) s
    go (y ∷ ys) (suc k) e = ap (λ zs. f y ∷ zs) (go ys k e)

next : (r : ℕ) (lists : List (List ℕ)) (k : ℕ) (list : List ℕ) → slice_get lists k ≡ Some list → orders_from r (take (suc k) lists) ≡ orders_from r (take k lists) ++ map (unmet (r + k)) list
next r [] k list e = absurd (cc)
next r (x ∷ xs) zero list e =
    let s : x ≡ list = cc in
    append-nil (map (unmet r) x) ∙ ap (λ z. map (unmet z) x) (let n : r ≡ r + 0 = omega arith in n) ∙ ap (map (unmet (r + 0))) s
next r (x ∷ xs) (suc k) list e =
    ap (λ (z : List Order). map (unmet r) x ++ z) (next (r + 1) xs k list e ∙ ap (λ z. orders_from (r + 1) (take k xs) ++ map (unmet z) list) (let n : r + 1 + k ≡ r + suc k = omega arith in n))
    ∙ sym (append_assoc (map (unmet r) x) (orders_from (r + 1) (take k xs)) (map (unmet (r + suc k)) list))

-- the orders of one short list more
pub orders_more : (r : ℕ) (lists : List (List ℕ)) (k : ℕ) (list : List ℕ) → slice_get lists k ≡ Some list → orders_from r (take (k + 1) lists) ≡ orders_from r (take k lists) ++ map (unmet (r + k)) list
orders_more r lists k list e = ap (λ n. orders_from r (take n lists)) (add-one k) ∙ next r lists k list e

-- all orders are laid out, and no row is read
pub stand_so : (t : List Row) (n r : ℕ) (o : Orders) → n ≡ r → Laying n r o.all.items o.begins.items → o.lasts.items ≡ replicate n None → Stands t n 0 o
stand_so t n r o e so lasts = record {
  as_long = ap (λ (z : List (Option Last)). length z) lasts ∙ length_same n None;
  laid = record {
    as_long = let s = so.as_long in omega (arith, s, e);
    first = so.first;
    ends = so.ends;
    there = so.there;
    back = so.back;
  };
  kept = λ a l f. kept a l (get_same n a None l (subst (λ (z : List (Option Last)). slice_get z a ≡ Some l) lasts f));
  counted = λ k x f. let u = so.unmet k x f in record { both = subst (Count (MeetsAt t x.first x.then) 0) (sym u.0) none; apart = subst (Count (ApartAt t x.first x.then) 0) (sym u.1) none };
}
  where
    kept : (a : ℕ) (l : Option Last) → l ≡ None → IsLast t 0 a l
    kept a l s = subst (IsLast t 0 a) (sym s) (λ k w g x y z. absurd (omega arith))

-- before the first row no order is met
pub cleared_all : (r : ℕ) (lists : List (List ℕ)) → map cleared (orders_from r lists) ≡ orders_from r lists
cleared_all r [] = refl
cleared_all r (list ∷ lists) = own list ∙ ap (λ (z : List Order). map (unmet r) list ++ z) (cleared_all (r + 1) lists)
  where
    own : (xs : List ℕ) → map cleared (map (unmet r) xs ++ orders_from (r + 1) lists) ≡ map (unmet r) xs ++ map cleared (orders_from (r + 1) lists)
    own [] = refl
    own (x ∷ xs) = ap (λ (z : List Order). unmet r x ∷ z) (own xs)
