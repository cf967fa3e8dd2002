-- No thing stands twice among what a reaction reads, or among what it writes.
use Rattle.std.proofs.Common.{◌≡◌, ◌≢◌, ℕ, ◌+◌, ◌⊎◌, inl, inr, Bool, true, false, cond, List, [], ◌∷◌, ◌++◌, filter, filter_map, position, length, get_or, slice_get, Option, Some, None, option_map, AllPairs, refl, sym, ap, subst, ◌∙◌, arith, length-append}
use Rattle.std.{specs.{List.AllZip, Str.bytes_eq}, proofs.lemmas.{Option.slice_get-get_or, Slice.Eq.bytes_eq-Decides}}
use Rattle.lft_lists.proofs.{Places.{push_apart, Some_same}, Members.Mem}
use Rattle.lft_tree.specs.Tree.{ReactorTree, InstanceTree, RefTree, TriggerTree, AtStartup, AtShutdown, OnRef, instances_of}
use Rattle.lft_resolve.proofs.ExpansionLemmas.{Unique.pairs_from, Pairs.{Pairs, pairs_at}}
use Rattle.lft_resolve.specs.{Causes.IsTwice, Instances.{Thing, thing_at, stands_for, stands_inside}, Kinds.ref_in}
use Rattle.lft_program.specs.{Located.Located, Flattening.{IsFlatName, IsTrigger, NamesThing}}
use Rattle.lft_ir.specs.{Naming.named, declared.parts.{Name.{Name, TheVariants.{Port, Action}}, Trigger.{Trigger, TheVariants.{Startup, Shutdown, Timer, On}}}}
use Rattle.lft_ir.proofs.Positions.{somewhere}

-- ---- lists of which one goes with some elements of the other, in order

module _ {A B : Type 0} (R : A → B → Type 0) where
  abbrev pub Some_of : List A → List B → Type 0
  Some_of [] ys = ys ≡ []
  Some_of (x ∷ xs) ys = Some_of xs ys ⊎ ((y : B) × (rest : List B) × (ys ≡ y ∷ rest) × R x y × Some_of xs rest)

  pub all_of : (xs : List A) (ys : List B) → AllZip R xs ys → Some_of xs ys
  all_of [] [] all = refl
  all_of [] (y ∷ ys) all = absurd all
  all_of (x ∷ xs) [] all = absurd all
  all_of (x ∷ xs) (y ∷ ys) all = inr (y, ys, refl, all.0, all_of xs ys all.1)

  pub some_kept : (p : A → Bool) (xs : List A) (ys : List B) → Some_of (filter p xs) ys → Some_of xs ys
  some_kept p [] ys some = some
  some_kept p (x ∷ xs) ys some = by (p x) (λ l. some_kept p xs l) some
    where
      by : (b : Bool) → ((l : List B) → Some_of (filter p xs) l → Some_of xs l) → Some_of (cond b (x ∷ filter p xs) (filter p xs)) ys → Some_of (x ∷ xs) ys
      by true go (inl s) = inl (go ys s)
      by true go (inr s) = inr (s.0, s.1, s.2, s.3, go s.1 s.4)
      by false go s = inl (go ys s)

  pub some_append : (xs more : List A) (ys rest : List B) → Some_of xs ys → Some_of more rest → Some_of (xs ++ more) (ys ++ rest)
  some_append [] more ys rest a b = subst (λ l. Some_of more (l ++ rest)) (sym a) b
  some_append (x ∷ xs) more ys rest (inl a) b = inl (some_append xs more ys rest a b)
  some_append (x ∷ xs) more ys rest (inr a) b = inr (a.0, a.1 ++ rest, ap (λ l. l ++ rest) a.2, a.3, some_append xs more a.1 rest a.4 b)

  pub some_from : (xs : List A) (ys : List B) (y : B) → Some_of xs ys → Mem y ys → (x : A) × Mem x xs × R x y
  some_from [] ys y s m = absurd (subst (Mem y) s m)
  some_from (x ∷ xs) ys y (inl s) m = let r = some_from xs ys y s m in (r.0, inr r.1, r.2)
  some_from (x ∷ xs) ys y (inr s) m = here (subst (Mem y) s.2 m) (λ n. some_from xs s.1 y s.4 n)
    where
      here : (s.0 ≡ y) ⊎ Mem y s.1 → (Mem y s.1 → (z : A) × Mem z xs × R z y) → (z : A) × Mem z (x ∷ xs) × R z y
      here (inl e) go = (x, inl refl, subst (R x) e s.3)
      here (inr n) go = let r = go n in (r.0, inr r.1, r.2)

  -- where one element goes with one item at most, distinct elements have distinct items
  pub some_distinct : ((a b : A) (y : B) → R a y → R b y → a ≡ b) → (xs : List A) (ys : List B) → Pairs (λ a b. a ≢ b) xs → Some_of xs ys → Pairs (λ m n. m ≢ n) ys
  some_distinct one [] ys apart s = subst (Pairs (λ m n. m ≢ n)) (sym s) tt
  some_distinct one (x ∷ xs) ys apart (inl s) = some_distinct one xs ys apart.1 s
  some_distinct one (x ∷ xs) ys apart (inr s) =
      let later : (y : B) → Mem y s.1 → s.0 ≢ y = λ y m e. (let f = some_from xs s.1 y s.4 m in apart.0 f.0 f.1 (one x f.0 y (subst (R x) e s.3) f.2)) in
      subst (Pairs (λ m n. m ≢ n)) (sym s.2) (later, some_distinct one xs s.1 apart.1 s.4)

pub once_apart : {X : Type 0} (xs : List X) → (IsTwice xs → ⊥) → Pairs (λ a b. a ≢ b) xs
once_apart xs once = pairs_from (λ a b. a ≢ b) xs (λ i j x y a b low same. once (i, j, x, low, a, b ∙ ap Some (sym same)))

pub apart_pairs : {X : Type 0} (xs : List X) → Pairs (λ a b. a ≢ b) xs → AllPairs (λ a b. a ≢ b) xs
apart_pairs xs apart i j d low high = pairs_at (λ a b. a ≢ b) xs apart i j (get_or xs i d) (get_or xs j d) (slice_get-get_or xs i d (omega arith)) (slice_get-get_or xs j d high) low

-- ---- names

one_longer : (path : List ℕ) (k : ℕ) → path ≡ path ++ k ∷ [] → ⊥
one_longer path k e = let l : length path ≡ length (path ++ k ∷ []) = ap length e in let m : length (path ++ k ∷ []) ≡ length path + 1 = length-append path (k ∷ []) in omega arith

-- the contained instance that a name of one of its ports begins with
pub record StandsInner (r : ReactorTree) (path head name : List ℕ) (t : Thing) : Type 0 where
  pub place : ℕ
  pub instance : InstanceTree
  pub is : position (λ i. bytes_eq head i.name) (instances_of r) ≡ Some place
  pub there : slice_get (instances_of r) place ≡ Some instance
  pub called : head ≡ instance.name
  pub thing : thing_at (path ++ place ∷ []) name ≡ t

pub stands_inner : (r : ReactorTree) (path head name : List ℕ) (t : Thing) → stands_inside r path head (Some name) ≡ Some t → StandsInner r path head name t
stands_inner r path head name t e = by (position (λ i. bytes_eq head i.name) (instances_of r)) refl e
  where
    by : (o : Option ℕ) → position (λ i. bytes_eq head i.name) (instances_of r) ≡ o → option_map (λ k. thing_at (path ++ k ∷ []) name) o ≡ Some t → StandsInner r path head name t
    by None is e = absurd (cc)
    by (Some k) is e =
        let w = somewhere (λ i. bytes_eq head i.name) (instances_of r) k is in
        record { place = k; instance = w.0; is = is; there = w.1; called = (bytes_eq-Decides head w.0.name).0 w.2; thing = Some_same _ _ e }

-- in one instance only one name stands for a thing
pub stands_once : (r : ReactorTree) (path : List ℕ) (a b : RefTree) (t : Thing) → stands_for r path a ≡ Some t → stands_for r path b ≡ Some t → a ≡ b
stands_once r path a b t e f = by a.port refl b.port refl e f
  where
    same : a.head ≡ b.head → a.port ≡ b.port → a ≡ b
    same h p = λ i. record { head = h i; port = p i }

    by : (o : Option (List ℕ)) → a.port ≡ o → (p : Option (List ℕ)) → b.port ≡ p → stands_inside r path a.head o ≡ Some t → stands_inside r path b.head p ≡ Some t → a ≡ b
    by None c None d e f = let u : thing_at path a.head ≡ thing_at path b.head = Some_same _ _ (e ∙ sym f) in same (ap (λ w. w.name) u) (c ∙ sym d)
    by None c (Some n) d e f =
        let u = stands_inner r path b.head n t f in
        let v : thing_at path a.head ≡ thing_at (path ++ u.place ∷ []) n = Some_same _ _ e ∙ sym u.thing in
        absurd (one_longer path u.place (ap (λ w. w.path) v))
    by (Some m) c None d e f =
        let u = stands_inner r path a.head m t e in
        let v : thing_at path b.head ≡ thing_at (path ++ u.place ∷ []) m = Some_same _ _ f ∙ sym u.thing in
        absurd (one_longer path u.place (ap (λ w. w.path) v))
    by (Some m) c (Some n) d e f =
        let u = stands_inner r path a.head m t e in
        let v = stands_inner r path b.head n t f in
        let w : thing_at (path ++ u.place ∷ []) m ≡ thing_at (path ++ v.place ∷ []) n = u.thing ∙ sym v.thing in
        let k : u.place ≡ v.place = (push_apart path path u.place v.place (ap (λ x. x.path) w)).1 in
        let i : u.instance ≡ v.instance = Some_same _ _ (sym u.there ∙ ap (slice_get (instances_of r)) k ∙ v.there) in
        let n : m ≡ n = ap (λ x. x.name) w in
        same (u.called ∙ ap (λ x. x.name) i ∙ sym v.called) (c ∙ ap Some n ∙ sym d)

means_one : (all : List Located) (n : Name) (t u : Thing) → NamesThing all t n → NamesThing all u n → t ≡ u
means_one all (Port p) t u a b = Some_same t u (sym a ∙ b)
means_one all (Action p) t u a b = Some_same t u (sym a ∙ b)

pub name_once : (all : List Located) (at : Located) (a b : RefTree) (n : Name) → IsFlatName all at a n → IsFlatName all at b n → a ≡ b
name_once all at a b n x y = stands_once at.inside.reactor at.path a b x.0 x.1 (y.1 ∙ ap Some (means_one all n y.0 x.0 y.2 x.2))

-- the names of triggers go with those that the text has
pub trigger_names : (all : List Located) (at : Located) (ds : List TriggerTree) (ts : List Trigger) → AllZip (IsTrigger all at) ds ts → Some_of (IsFlatName all at) (filter_map ref_in ds) (filter_map named ts)
trigger_names all at [] [] zip = refl
trigger_names all at [] (t ∷ ts) zip = absurd zip
trigger_names all at (d ∷ ds) [] zip = absurd zip
trigger_names all at (AtStartup ∷ ds) (Startup ∷ ts) zip = trigger_names all at ds ts zip.1
trigger_names all at (AtStartup ∷ ds) (Shutdown ∷ ts) zip = trigger_names all at ds ts zip.1
trigger_names all at (AtStartup ∷ ds) (Timer n ∷ ts) zip = trigger_names all at ds ts zip.1
trigger_names all at (AtStartup ∷ ds) (On n ∷ ts) zip = absurd (cc zip.0)
trigger_names all at (AtShutdown ∷ ds) (Startup ∷ ts) zip = trigger_names all at ds ts zip.1
trigger_names all at (AtShutdown ∷ ds) (Shutdown ∷ ts) zip = trigger_names all at ds ts zip.1
trigger_names all at (AtShutdown ∷ ds) (Timer n ∷ ts) zip = trigger_names all at ds ts zip.1
trigger_names all at (AtShutdown ∷ ds) (On n ∷ ts) zip = absurd (cc zip.0)
trigger_names all at (OnRef ref ∷ ds) (Startup ∷ ts) zip = absurd zip.0
trigger_names all at (OnRef ref ∷ ds) (Shutdown ∷ ts) zip = absurd zip.0
trigger_names all at (OnRef ref ∷ ds) (Timer n ∷ ts) zip = inl (trigger_names all at ds ts zip.1)
trigger_names all at (OnRef ref ∷ ds) (On n ∷ ts) zip = inr (n, filter_map named ts, refl, zip.0, trigger_names all at ds ts zip.1)
