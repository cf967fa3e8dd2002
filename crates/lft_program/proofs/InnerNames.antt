-- The instances that others contain: where they stand, and what they are called.
use Rattle.std.proofs.Common.{◌≡◌, ℕ, ◌+◌, ◌<◌, List, [], ◌∷◌, ◌++◌, map, flat_map, drop, length, slice_get, Some, None, Option, option_map, option_to_list, codes, refl, sym, ap, subst, ◌∙◌, arith, append_assoc, append-nil}
use Rattle.std.proofs.lemmas.{List.length-map, Option.slice_get_within}
use Rattle.lft_lists.proofs.{Mapped.{mapped, mapped_from}, Places.{get_there, Some_same}, Zips.long as zip_long}
use Rattle.lft_tree.specs.Tree.{FileTree, ReactorTree, InstanceTree, reactors_of, instances_of}
use Rattle.lft_resolve.specs.{Expansion.Paths.along, declared.expansion.walk.Instance.Instance}
use Rattle.lft_resolve.specs.Instances.{Inside, entered, given_in, main_instance, reactor_named}
use Rattle.lft_resolve.proofs.{Directed.AllZip-to, Files.AllZip-from}
use Rattle.lft_program.specs.{Located.Located, inner.{Nests.{IsInstanceOf, IsNest}, OwnNames.own_names, TreeLists.{name_at, seen}}}
use Rattle.lft_program.specs.{declared.{nesting.{nest.Nest.Nest, tables.Tables.Tables}, naming.OwnName.OwnName}, Flattening.{name_of_path, name_under}}
use Rattle.lft_program.proofs.{Zipping.then_some, KindNames.instance_name_there, NamesOnce.instance_names, Sites.AreSites, Nested.{path_of, one_number}}
use Rattle.lft_ir.proofs.Ranges.{slice_get-drop}
use Rattle.lft_program.specs.declared.own_names.MemberKind.TheVariants as kinds

-- ---- a path with one more step

pub along_last : {X : Type 0} (step : X → ℕ → Option X) (x : X) (path : List ℕ) (k : ℕ) (y z : X) → along step x path ≡ Some y → along step x (path ++ k ∷ []) ≡ Some z → step y k ≡ Some z
along_last step x [] k y z one two =
    let same : x ≡ y = Some_same x y one in
    let s = then_some (λ w. along step w []) (step x k) z two in
    ap (λ w. step w k) (sym same) ∙ s.1 ∙ s.2
along_last step x (j ∷ path) k y z one two =
    let s = then_some (λ w. along step w path) (step x j) y one in
    let t = then_some (λ w. along step w (path ++ k ∷ [])) (step x j) z two in
    let same : t.0 ≡ s.0 = Some_same t.0 s.0 (sym t.1 ∙ s.1) in
    along_last step s.0 path k y z s.2 (subst (λ w. along step w (path ++ k ∷ []) ≡ Some z) same t.2)

module _ (tree : FileTree) where
  -- what one step adds to a name
  here_name : (x : Inside) (k : ℕ) (i : InstanceTree) → slice_get (instances_of x.reactor) k ≡ Some i → name_under tree x (k ∷ []) ≡ codes "." ++ i.name
  here_name x k i at = ap (λ o. flat_map (λ i. codes "." ++ i.name) (option_to_list o) ++ flat_map (λ y. name_under tree y []) (option_to_list (entered tree x k))) at ∙ nothing (entered tree x k)
    where
      nothing : (o : Option Inside) → flat_map (λ i. codes "." ++ i.name) (i ∷ []) ++ flat_map (λ y. name_under tree y []) (option_to_list o) ≡ codes "." ++ i.name
      nothing None = append-nil _ ∙ append-nil _
      nothing (Some y) = append-nil _ ∙ append-nil _

  under_last : (x : Inside) (path : List ℕ) (k : ℕ) (y : Inside) (i : InstanceTree) → along (entered tree) x path ≡ Some y → slice_get (instances_of y.reactor) k ≡ Some i → name_under tree x (path ++ k ∷ []) ≡ name_under tree x path ++ (codes "." ++ i.name)
  under_last x [] k y i leads at =
      let same : x ≡ y = Some_same x y leads in
      here_name x k i (ap (λ (w : Inside). slice_get (instances_of w.reactor) k) same ∙ at)
  under_last x (j ∷ path) k y i leads at =
      let s = then_some (λ w. along (entered tree) w path) (entered tree x j) y leads in
      let front = flat_map (λ i. codes "." ++ i.name) (option_to_list (slice_get (instances_of x.reactor) j)) in
      let rest = under_last s.0 path k y i s.2 at in
      let a : name_under tree x (j ∷ (path ++ k ∷ [])) ≡ front ++ name_under tree s.0 (path ++ k ∷ []) = ap (λ o. front ++ flat_map (λ y. name_under tree y (path ++ k ∷ [])) (option_to_list o)) s.1 ∙ ap (λ l. front ++ l) (append-nil _) in
      let b : name_under tree x (j ∷ path) ≡ front ++ name_under tree s.0 path = ap (λ o. front ++ flat_map (λ y. name_under tree y path) (option_to_list o)) s.1 ∙ ap (λ l. front ++ l) (append-nil _) in
      a ∙ ap (λ l. front ++ l) rest ∙ sym (append_assoc front (name_under tree s.0 path) (codes "." ++ i.name)) ∙ ap (λ l. l ++ (codes "." ++ i.name)) (sym b)

  pub path_last : (main : ReactorTree) (path : List ℕ) (k : ℕ) (y : Inside) (i : InstanceTree) → along (entered tree) (main_instance main) path ≡ Some y → slice_get (instances_of y.reactor) k ≡ Some i → name_of_path tree main (path ++ k ∷ []) ≡ name_of_path tree main path ++ codes "." ++ i.name
  path_last main path k y i leads at =
      let x = main_instance main in
      ap (λ l. codes "main" ++ l) (under_last x path k y i leads at)
      ∙ sym (append_assoc (codes "main") (name_under tree x path) (codes "." ++ i.name))
      ∙ sym (append_assoc (codes "main" ++ name_under tree x path) (codes ".") i.name)

-- ---- the instances but the main one

-- the k-th instance, which is not the main one: it stands at a place of the one that contains it
pub record IsInner (located : List Located) (k : ℕ) (x : OwnName) : Type 0 where
  pub outer : Located
  pub inner : Located
  pub place : ℕ
  pub item : InstanceTree
  pub before : x.instance < k
  pub there : slice_get located x.instance ≡ Some outer
  pub here : slice_get located k ≡ Some inner
  pub stands : slice_get (instances_of outer.inside.reactor) place ≡ Some item
  pub called : x.name.now ≡ item.name
  pub path : inner.path ≡ outer.path ++ place ∷ []

module _ (tree : FileTree) (tables : Tables) (nest : Nest) (is : IsNest tree tables nest) where
  -- the place of an instance that leads somewhere is that of its declaration
  declared_there : (y z : Inside) (k : ℕ) → entered tree y k ≡ Some z → (i : InstanceTree) × (slice_get (instances_of y.reactor) k ≡ Some i)
  declared_there y z k e =
      let s = then_some (λ i. option_map (λ r. record { reactor = r; values = map (given_in y i.given) r.parameters }) (reactor_named (reactors_of tree) i.reactor)) (slice_get (instances_of y.reactor) k) z e in
      (s.0, s.1)

  located_at : (n : ℕ) (p : List ℕ) → slice_get is.walk.paths n ≡ Some p → (l : Located) × (slice_get is.located n ≡ Some l) × (l.path ≡ p)
  located_at n p at = mapped_from (λ l. l.path) is.located n p (ap (λ ps. slice_get ps n) is.paths ∙ at)

  pub long : length is.located ≡ length nest.instances.items
  long = zip_long (IsInstanceOf (reactors_of tree)) is.located nest.instances.items is.instances

  -- the main instance
  pub first : (l : Located) × (slice_get is.located 0 ≡ Some l) × (l.path ≡ [])
  first =
      let root = is.walk.in_order.all [] (tables.main, refl) in
      let within = get_within_path root.0 root.1 in
      let l = get_there is.located 0 within in
      let m = AllZip-to (IsInstanceOf (reactors_of tree)) is.located nest.instances.items is.instances 0 l.0 l.1 in
      (l.0, l.1, (is.walk.each 0 m.0 l.0.path m.1 (path_of tree tables nest is 0 l.0 l.1)).first refl)
    where
      get_within_path : (i : ℕ) → slice_get is.walk.paths i ≡ Some [] → 0 < length is.located
      get_within_path i at = let l = located_at i [] at in let w = slice_get_within is.located i l.0 l.1 in omega arith

  -- what a list of the instances says of one: the number of its container, and its name there
  abbrev pub told_of : Instance → ℕ × List ℕ
  told_of i = (i.parent, name_at (map (own_names kinds.Instance) (reactors_of tree)) nest.instances.items i.parent i.place)

  inner_of : (k : ℕ) (x : OwnName) (m : Instance) (l o : Located) → slice_get is.located k ≡ Some l → slice_get is.located m.parent ≡ Some o → m.parent < k → l.path ≡ o.path ++ m.place ∷ [] → seen x ≡ told_of m → IsInner is.located k x
  inner_of k x m l o at_l at_o before path told =
      let main = main_instance is.are_located.main in
      let leads : along (entered tree) main (o.path ++ m.place ∷ []) ≡ Some l.inside = ap (along (entered tree) main) (sym path) ∙ is.are_located.inside k l at_l in
      let step = along_last (entered tree) main o.path m.place o.inside l.inside (is.are_located.inside m.parent o at_o) leads in
      let item = declared_there o.inside l.inside m.place step in
      let parent : x.instance ≡ m.parent = ap (λ p. p.0) told in
      let called = instance_name_there (reactors_of tree) is.located nest.instances.items is.instances m.parent m.place o item.0 at_o item.1 in
      record {
        outer = o;
        inner = l;
        place = m.place;
        item = item.0;
        before = omega arith;
        there = ap (slice_get is.located) parent ∙ at_o;
        here = at_l;
        stands = item.1;
        called = ap (λ p. p.1) told ∙ called;
        path = path;
      }

  module _ (xs : List OwnName) (seen_so : map seen xs ≡ map told_of nest.instances.items) where
    pub long_inner : length xs ≡ length is.located
    long_inner = sym (length-map xs seen) ∙ ap length seen_so ∙ length-map nest.instances.items told_of ∙ sym long

    pub inner_at : (k : ℕ) (x : OwnName) → slice_get xs k ≡ Some x → 0 < k → IsInner is.located k x
    inner_at k x at later =
        let made : slice_get (map told_of nest.instances.items) k ≡ Some (seen x) = ap (λ l. slice_get l k) (sym seen_so) ∙ mapped seen xs k x at in
        let m = mapped_from told_of nest.instances.items k (seen x) made in
        let l = AllZip-from (IsInstanceOf (reactors_of tree)) is.located nest.instances.items is.instances k m.0 m.1 in
        let walked = (is.walk.each k m.0 l.0.path m.1 (path_of tree tables nest is k l.0 l.1)).later later in
        let outer = located_at m.0.parent walked.0 walked.2 in
        let path : l.0.path ≡ outer.0.path ++ m.0.place ∷ [] = sym walked.3 ∙ ap (λ p. p ++ m.0.place ∷ []) (sym outer.2) in
        inner_of k x m.0 l.0 outer.0 l.1 outer.1 walked.1 path (sym m.2)

    later_at : (k : ℕ) (x : OwnName) → slice_get (drop 1 xs) k ≡ Some x → slice_get xs (1 + k) ≡ Some x
    later_at k x at = sym (slice_get-drop xs 1 k) ∙ at

    pub inner_sites : AreSites is.located instance_names (drop 1 xs)
    inner_sites = record {
      site = λ k x at.
          let i = inner_at (1 + k) x (later_at k x at) (omega arith) in
          record { at = i.outer; place = i.place; there = i.there; name = mapped (λ i. i.name) (instances_of i.outer.inside.reactor) i.place i.item i.stands ∙ ap Some (sym i.called) };
      one = λ i j a b at_a at_b instance place.
          let x = inner_at (1 + i) a (later_at i a at_a) (omega arith) in
          let y = inner_at (1 + j) b (later_at j b at_b) (omega arith) in
          let outer : x.outer ≡ y.outer = Some_same x.outer y.outer (sym x.there ∙ ap (slice_get is.located) instance ∙ y.there) in
          let path : x.inner.path ≡ y.inner.path = x.path ∙ ap (λ (l : Located). l.path ++ x.place ∷ []) outer ∙ ap (λ p. y.outer.path ++ p ∷ []) place ∙ sym y.path in
          let same : 1 + i ≡ 1 + j = one_number tree tables nest is (1 + i) (1 + j) x.inner y.inner x.here y.here path in
          omega arith;
    }
