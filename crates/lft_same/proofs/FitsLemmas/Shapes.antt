-- A shape is of its reactor.
use Rattle.std.proofs.Common.{◌≡◌, ◌≢◌, ◌⊎◌, inl, inr, ℕ, ◌+◌, ◌<◌, ◌≤◌, true, false, ◌&&◌, ◌||◌, List, [], ◌∷◌, ◌++◌, length, map, filter_map, flat_map, Option, Some, None, option_map, option_to_list, slice_get, refl, sym, ap, subst, ◌∙◌, arith}
use Rattle.std.specs.Prelude.{◌==◌, string_bytes}
use Rattle.std.specs.{List.{enumerate_from, list_any, AllByRecursion, IsDistinct}, Option.option_and_then}
use Rattle.std.proofs.lemmas.{Bool.{true≢false, Decides.eqb_tells}, List.{append-nil, length-append, length-map, map-append, Folds.flat_map-map}}
use Rattle.std.proofs.lemmas.{Map.Steps.length-le_from_distinct_below, Option.slice_get_within}
use Rattle.lft_lists.proofs.{Mapped.{mapped_from, option_map_some}, Members.{Mem, get_mem, mem_from_filter, mem_from_flat}, Picked.map-filter_map}
use Rattle.lft_lists.proofs.Places.{get_push_cases, Some_same}
use Rattle.lft_resolve.proofs.ExpansionLemmas.{Pairs.Pairs, Unique.pairs_from}
use Rattle.lft_program.proofs.Zipping.{then_some}
use Rattle.lft_whole.specs.declared.{sources.source.SourceFile.SourceFile, tree.{Member.Member, Name.Name, Parameter.Parameter, Reactor.Reactor}}
use Rattle.lft_classes.specs.declared.{scopes.Class.Class as ScopesClass, shapes.Shape.Shape}
use Rattle.lft_classes.specs.inner.Built.{IsBuilt, core, members_at, members_or_none, parameters_at, parameters_or_none}
use Rattle.lft_classes.specs.inner.Chains.{IsChain, base_in, base_of, bases_in, all_bases as numbered_bases, extended_reactor}
use Rattle.lft_classes.specs.inner.Scopes.{AreScopes, class_at, reactors_in, reactors_of_file, reactors_before}
use Rattle.lft_classes.specs.inner.Walks.{IsTopologicalOrder, IsReachable, Ways, nothing, one, itself, further}
use Rattle.lft_classes.proofs.{Decided.listed_before, Numbering.at_file}
use Rattle.lft_same.specs.Expanded.Reactors.{Class, bases_of, class_named, lineage, reactor_count, reactor_of, same_class}
use Rattle.lft_same.specs.inner.Fits.Fits.{IsShapeOf, number_at}
use Rattle.lft_same.proofs.FitsLemmas.{ClassNames.{names_law, named_is}, Lineage.{Apart, Puts, all_put, lineage_apart, lineage_here, lineage_listed}}

-- ---- lists

behind_alone : (next : Ways) (list : List ℕ) → IsTopologicalOrder next list → (i j x : ℕ) → slice_get list i ≡ Some x → slice_get list j ≡ Some x → i ≡ j
behind_alone next _ nothing i j x at there = absurd (cc)
behind_alone next _ (one xs y before none all) i j x at there = by (behind_alone next xs before i j x) (get_push_cases xs y i x at) (get_push_cases xs y j x there)
  where
    by : (slice_get xs i ≡ Some x → slice_get xs j ≡ Some x → i ≡ j) → (slice_get xs i ≡ Some x) ⊎ ((i ≡ length xs) × (y ≡ x)) → (slice_get xs j ≡ Some x) ⊎ ((j ≡ length xs) × (y ≡ x)) → i ≡ j
    by old (inl a) (inl b) = old a b
    by old (inl a) (inr b) = absurd (none (i, a ∙ ap Some (sym b.1)))
    by old (inr a) (inl b) = absurd (none (j, b ∙ ap Some (sym a.1)))
    by old (inr a) (inr b) = a.0 ∙ sym b.0

pairs_weaker : {X : Type 0} (R S : X → X → Type 0) (xs : List X) → ((x y : X) → Mem x xs → Mem y xs → R x y → S x y) → Pairs R xs → Pairs S xs
pairs_weaker R S [] go h = tt
pairs_weaker R S (x ∷ xs) go h = (λ y m. go x y (inl refl) (inr m) (h.0 y m), pairs_weaker R S xs (λ y z m n. go y z (inr m) (inr n)) h.1)

differ_all : (x : ℕ) (ys : List ℕ) → ((y : ℕ) → Mem y ys → x ≢ y) → AllByRecursion (λ y. (x == y) ≡ false) ys
differ_all x [] d = tt
differ_all x (y ∷ ys) d = (elim (eqb_tells x y) [ inl same ↦ absurd (d y (inl refl) same.1) | inr other ↦ other.0 ], differ_all x ys (λ z m. d z (inr m)))

distinct : (xs : List ℕ) → Pairs (λ x y. x ≢ y) xs → IsDistinct (λ x y. x == y) xs
unfolding IsDistinct
distinct [] p = tt
distinct (x ∷ xs) p = (differ_all x xs p.0, distinct xs p.1)

there : (q : ℕ) (xs : List ℕ) → list_any (λ y. q == y) xs ≡ true → Mem q xs
there q [] h = absurd (cc)
there q (x ∷ xs) h = by (eqb_tells q x) (there q xs)
  where
    by : (((q == x) ≡ true) × (q ≡ x)) ⊎ (((q == x) ≡ false) × (q ≢ x)) → (list_any (λ y. q == y) xs ≡ true → Mem q xs) → Mem q (x ∷ xs)
    by (inl same) rest = inl (sym same.1)
    by (inr other) rest = inr (rest (ap (λ t. t || list_any (λ y. q == y) xs) (sym other.0) ∙ h))

-- numbers below a count, of which each stands once, are at most so many
few : (list : List ℕ) (n : ℕ) → Pairs (λ x y. x ≢ y) list → ((x : ℕ) → Mem x list → x < n) → length list ≤ n
few list n apart below = length-le_from_distinct_below list n (distinct list apart) (λ q h. below q (there q list h))

pub flat_alike : {X Y : Type 0} (f g : X → List Y) (xs : List X) → ((x : X) → Mem x xs → f x ≡ g x) → flat_map f xs ≡ flat_map g xs
flat_alike f g [] same = refl
flat_alike f g (x ∷ xs) same = ap (λ l. l ++ flat_map f xs) (same x (inl refl)) ∙ ap (λ l. g x ++ l) (flat_alike f g xs (λ y m. same y (inr m)))

map_flat : {X Y Z : Type 0} (g : Y → Z) (f : X → List Y) (xs : List X) → map g (flat_map f xs) ≡ flat_map (λ x. map g (f x)) xs
map_flat g f [] = refl
map_flat g f (x ∷ xs) = map-append g (f x) (flat_map f xs) ∙ ap (λ l. map g (f x) ++ l) (map_flat g f xs)

second : {X Y : Type 0} (x : X) (ys : List Y) → map (λ (p : X × Y). p.1) (map (λ y. (x, y)) ys) ≡ ys
second x [] = refl
second {X} {Y} x (y ∷ ys) = ap (λ (l : List Y). y ∷ l) (second x ys)

-- ---- reactors by number

-- such a reactor is there
abbrev pub IsHere : List SourceFile → Class → Type 0
IsHere files c = (r : Reactor) × (reactor_of files c ≡ Some r)

stands : (files : List SourceFile) (c : Class) (here : IsHere files c) → slice_get (reactors_in files) (number_at files c) ≡ Some (c.0, here.0)
stands files c here = let f = then_some (λ (f : SourceFile). slice_get f.tree.reactors.items c.1) (slice_get files c.0) here.0 here.1 in at_file files c.0 f.0 c.1 here.0 f.1 f.2

alike : (files : List SourceFile) (c d : Class) → same_class c d ≡ true → number_at files c ≡ number_at files d
alike files c d same = elim (eqb_tells c.0 d.0) [
  | inl a ↦ elim (eqb_tells c.1 d.1) [
    | inl b ↦ ap (λ n. length (reactors_before files n) + c.1) a.1 ∙ ap (λ n. length (reactors_before files d.0) + n) b.1
    | inr b ↦ (let e = b.0 in let f = a.0 in let g : false ≡ true = sym (ap (λ t. t && (c.1 == d.1)) f ∙ e) ∙ same in absurd (true≢false (sym g)))
  ]
  | inr a ↦ (let e = a.0 in let g : false ≡ true = sym (ap (λ t. t && (c.1 == d.1)) e) ∙ same in absurd (true≢false (sym g)))
]

-- two reactors have two numbers
differ : (files : List SourceFile) (c d : Class) → IsHere files c → IsHere files d → same_class c d ≡ false → number_at files c ≢ number_at files d
differ files c d here there apart e =
    let p = Some_same (c.0, here.0) (d.0, there.0) (sym (stands files c here) ∙ ap (slice_get (reactors_in files)) e ∙ stands files d there) in
    let a : c.0 ≡ d.0 = ap (λ (q : ℕ × Reactor). q.0) p in
    let l : length (reactors_before files c.0) ≡ length (reactors_before files d.0) = ap (λ n. length (reactors_before files n)) a in
    let b : c.1 ≡ d.1 = omega (arith, e, l) in
    let t : same_class c d ≡ true = both c.0 d.0 c.1 d.1 a b in
    true≢false (sym t ∙ apart)
  where
    eq_true : (m n : ℕ) → m ≡ n → (m == n) ≡ true
    eq_true m n same = elim (eqb_tells m n) [ inl a ↦ a.0 | inr b ↦ absurd (b.1 same) ]

    both : (i j k l : ℕ) → i ≡ j → k ≡ l → ((i == j) && (k == l)) ≡ true
    both i j k l a b = ap (λ t. t && (k == l)) (eq_true i j a) ∙ eq_true k l b

-- as many as are counted
all_counted : (files : List SourceFile) → length (reactors_in files) ≡ reactor_count files
all_counted files = go 0 files
  where
    go : (n : ℕ) (fs : List SourceFile) → length (flat_map reactors_of_file (enumerate_from n fs)) ≡ length (flat_map (λ (f : SourceFile). f.tree.reactors.items) fs)
    go n [] = refl
    go n (f ∷ fs) =
        let pair : Reactor → ℕ × Reactor = λ s. (n, s) in
        let a = length-append (map pair f.tree.reactors.items) (flat_map reactors_of_file (enumerate_from (n + 1) fs)) in
        let b = length-append f.tree.reactors.items (flat_map (λ (f : SourceFile). f.tree.reactors.items) fs) in
        let c : length (map pair f.tree.reactors.items) ≡ length f.tree.reactors.items = length-map f.tree.reactors.items pair in
        let d = go (n + 1) fs in
        omega (arith, a, b, c, d)

module _ (files : List SourceFile) (scopes : _) (are : AreScopes files scopes) where
  -- the class of this number
  pub class_is : (c : Class) (here : IsHere files c) → (d : ScopesClass) × (class_at scopes (number_at files c) ≡ Some d) × (d.file ≡ c.0) × (d.reactor.now ≡ here.0)
  class_is c here =
      let d = mapped_from (λ (d : ScopesClass). (d.file, d.reactor.now)) scopes.classes.items (number_at files c) (c.0, here.0) (ap (λ l. slice_get l (number_at files c)) are.reactors ∙ stands files c here) in
      (d.0, d.1, ap (λ (q : ℕ × Reactor). q.0) d.2, ap (λ (q : ℕ × Reactor). q.1) d.2)

  -- what a name means is there
  pub named_here : (file : ℕ) (q : List ℕ) (c : Class) → class_named files file q ≡ Some c → IsHere files c
  named_here file q c means = let d = named_is files scopes are file q c means in (d.0.reactor.now, d.2.reactor)

  bases_here : (c d : Class) → IsHere files c → Mem d (bases_of files c) → IsHere files d
  bases_here c d here m =
      let r = mem_from_flat (λ (r : Reactor). filter_map (λ (b : Name). class_named files c.0 (string_bytes b.text)) r.bases.items) (option_to_list (reactor_of files c)) d m in
      let b = mem_from_filter (λ (b : Name). class_named files c.0 (string_bytes b.text)) r.0.bases.items d r.2 in
      named_here c.0 (string_bytes b.0.text) d b.2

  bases_num : (c : Class) → IsHere files c → map (number_at files) (bases_of files c) ≡ numbered_bases scopes (number_at files c)
  bases_num c here =
      let d = class_is c here in
      let own : bases_of files c ≡ filter_map means here.0.bases.items = ap (λ o. flat_map (λ (r : Reactor). filter_map means r.bases.items) (option_to_list o)) here.1 ∙ append-nil (filter_map means here.0.bases.items) in
      let there : numbered_bases scopes (number_at files c) ≡ filter_map (extended_reactor scopes c.0) here.0.bases.items = ap (λ o. bases_in scopes o 0) d.1 ∙ ap (λ n. filter_map (extended_reactor scopes n) d.0.reactor.now.bases.items) d.2 ∙ ap (λ (r : Reactor). filter_map (extended_reactor scopes c.0) r.bases.items) d.3 in
      ap (map (number_at files)) own ∙ map-filter_map (number_at files) means here.0.bases.items ∙ (λ i. filter_map (λ (b : Name). sym (names_law files scopes are c.0 (string_bytes b.text)) i) here.0.bases.items) ∙ sym there
    where
      means : Name → Option Class
      means b = class_named files c.0 (string_bytes b.text)

  base_at : (x s : ℕ) → Mem s (numbered_bases scopes x) → (k : ℕ) × (base_of scopes x k ≡ Some s)
  base_at x s m = go (class_at scopes x) m
    where
      go : (o : Option ScopesClass) → Mem s (bases_in scopes o 0) → (k : ℕ) × (option_and_then (λ c. base_in scopes c k) o ≡ Some s)
      go None m = absurd m
      go (Some c) m =
          let b = mem_from_filter (extended_reactor scopes c.file) c.reactor.now.bases.items s m in
          let k = get_mem b.0 c.reactor.now.bases.items b.1 in
          (k.0, ap (option_and_then (extended_reactor scopes c.file)) k.1 ∙ b.2)

  -- a number that is reached is one of a reactor
  reached_below : (c : Class) (here : IsHere files c) (r : ℕ) → IsReachable (base_of scopes) (number_at files c) r → r < length (reactors_in files)
  reached_below c here _ itself = slice_get_within (reactors_in files) (number_at files c) (c.0, here.0) (stands files c here)
  reached_below c here s (further {r} k before leads) =
      let d = then_some (λ c. base_in scopes c k) (class_at scopes r) s leads in
      let b = then_some (extended_reactor scopes d.0.file) (slice_get d.0.reactor.now.bases.items k) s d.2 in
      let n : option_map (number_at files) (class_named files d.0.file (string_bytes b.0.text)) ≡ Some s = sym (names_law files scopes are d.0.file (string_bytes b.0.text)) ∙ b.2 in
      let e = option_map_some (number_at files) (class_named files d.0.file (string_bytes b.0.text)) s n in
      let h = named_here d.0.file (string_bytes b.0.text) e.0 e.1 in
      subst (λ m. m < length (reactors_in files)) e.2 (slice_get_within (reactors_in files) (number_at files e.0) (e.0.0, h.0) (stands files e.0 h))

  -- a reactor and all that it extends, in the order of the language
  pub lineage_is : (c : Class) → IsHere files c → (list : List ℕ) → IsChain scopes (number_at files c) list → list ≡ map (number_at files) (lineage files c)
  lineage_is c here list chain = all_put (number_at files) (alike files) [] list (lineage files c) (map (number_at files) (lineage files c)) apart (λ d m n. absurd n) refl puts
    where
      alone : (i j x : ℕ) → slice_get list i ≡ Some x → slice_get list j ≡ Some x → i ≡ j
      alone = behind_alone (base_of scopes) list chain.all.behind

      lower : (i x s : ℕ) → slice_get list i ≡ Some x → Mem s (numbered_bases scopes x) → (j : ℕ) × (j < i) × (slice_get list j ≡ Some s)
      lower i x s at m = let k = base_at x s m in listed_before (base_of scopes) list chain.all.behind i x k.0 s at k.1

      short : length list ≤ reactor_count files
      short = let n = all_counted files in let l = few list (length (reactors_in files)) (pairs_from (λ x y. x ≢ y) list (λ i j x y a b l e. (let s = alone i j x a (b ∙ ap Some (sym e)) in omega (arith, l, s)))) (λ x m. reached_below c here x (chain.all.reached x (get_mem x list m))) in omega (arith, n, l)

      puts : Puts [] (map (number_at files) (lineage files c)) list
      puts = lineage_listed files (number_at files) (alike files) (IsHere files) (numbered_bases scopes) bases_num bases_here list lower alone c (reactor_count files) here chain.in_order chain.all.has_first short

      apart : Pairs (λ c d. number_at files c ≢ number_at files d) (lineage files c)
      apart = pairs_weaker Apart (λ c d. number_at files c ≢ number_at files d) (lineage files c) (λ d e m n. differ files d e (all_here d m) (all_here e n)) (lineage_apart files (number_at files) (alike files) (IsHere files) (numbered_bases scopes) bases_num bases_here (reactor_count files) c)
        where
          all_here : (d : Class) → Mem d (lineage files c) → IsHere files d
          all_here d m = lineage_here files (number_at files) (alike files) (IsHere files) (numbered_bases scopes) bases_num bases_here (reactor_count files) c d here m

  -- the shape that is built of a reactor is of it
  pub shape_is : (shape : Shape) (c : Class) → IsHere files c → shape.class.number ≡ number_at files c → IsBuilt scopes (core shape) → IsShapeOf files shape c
  shape_is shape c here number built = record {
    number = number;
    members = built.has_members ∙ ap (flat_map (members_at scopes)) listed ∙ flat_map-map (members_at scopes) (number_at files) (lineage files c) ∙ flat_alike (λ d. members_at scopes (number_at files d)) (λ d. flat_map (λ (r : Reactor). map (λ (m : Member). at d.0 m) r.members.items) (option_to_list (reactor_of files d))) (lineage files c) members;
    parameters = ap (map (λ (p : ℕ × Parameter). p.1)) (built.has_parameters ∙ ap (flat_map (parameters_at scopes)) listed ∙ flat_map-map (parameters_at scopes) (number_at files) (lineage files c)) ∙ map_flat (λ (p : ℕ × Parameter). p.1) (λ d. parameters_at scopes (number_at files d)) (lineage files c) ∙ flat_alike (λ d. map (λ (p : ℕ × Parameter). p.1) (parameters_at scopes (number_at files d))) (λ d. flat_map (λ (r : Reactor). r.parameters.items) (option_to_list (reactor_of files d))) (lineage files c) parameters;
    names = built.has_names;
  }
    where
      at : ℕ → Member → ℕ × Member
      at n m = (n, m)

      listed : built.chain ≡ map (number_at files) (lineage files c)
      listed = lineage_is c here built.chain (subst (λ n. IsChain scopes n built.chain) number built.extends)

      all_here : (d : Class) → Mem d (lineage files c) → IsHere files d
      all_here d m = lineage_here files (number_at files) (alike files) (IsHere files) (numbered_bases scopes) bases_num bases_here (reactor_count files) c d here m

      members : (d : Class) → Mem d (lineage files c) → members_at scopes (number_at files d) ≡ flat_map (λ (r : Reactor). map (at d.0) r.members.items) (option_to_list (reactor_of files d))
      members d m =
          let h = all_here d m in
          let k = class_is d h in
          ap members_or_none k.1 ∙ ap (λ n. map (at n) k.0.reactor.now.members.items) k.2 ∙ ap (λ (r : Reactor). map (at d.0) r.members.items) k.3 ∙ sym (append-nil (map (at d.0) h.0.members.items)) ∙ ap (λ o. flat_map (λ (r : Reactor). map (at d.0) r.members.items) (option_to_list o)) (sym h.1)

      parameters : (d : Class) → Mem d (lineage files c) → map (λ (p : ℕ × Parameter). p.1) (parameters_at scopes (number_at files d)) ≡ flat_map (λ (r : Reactor). r.parameters.items) (option_to_list (reactor_of files d))
      parameters d m =
          let h = all_here d m in
          let k = class_is d h in
          ap (λ o. map (λ (p : ℕ × Parameter). p.1) (parameters_or_none o)) k.1 ∙ second k.0.file k.0.reactor.now.parameters.items ∙ ap (λ (r : Reactor). r.parameters.items) k.3 ∙ sym (append-nil h.0.parameters.items) ∙ ap (λ o. flat_map (λ (r : Reactor). r.parameters.items) (option_to_list o)) (sym h.1)
