-- The instances of a tree with their paths, from a walk.
use Rattle.std.proofs.Common.{◌≡◌, ℕ, List, [], ◌∷◌, Any, length, refl, sym, ap, ◌∙◌, subst, arith, Some, slice_get, map, unwrap_or}
use Rattle.std.{specs.List.AllZip, proofs.lemmas.{Option.slice_get_within, List.length-map}}
use Rattle.lft_lists.proofs.{Mapped.mapped_from, Places.get_there}
use Rattle.lft_tree.specs.Tree.{FileTree, ReactorTree, reactors_of}
use Rattle.lft_resolve.specs.inner.Expansion.{Contents.{IsWalk, contained}, Values.{HaveValues, LeadToValues, defaults_of, entered as entered_by_number}}
use Rattle.lft_resolve.specs.inner.{Numbers.AreContents, Sheets.AreParameters}
use Rattle.lft_resolve.specs.Expansion.Paths.{IsPreOrder, along}
use Rattle.lft_resolve.specs.declared.expansion.{settings.Parameters.Parameters, walk.{Contents.Contents, Instance.Instance}}
use Rattle.lft_resolve.specs.{Causes.{HasLongTime, NoneHolds, first_causes}, Instances.{entered, main_instance, main_of}}
use Rattle.lft_resolve.proofs.ExpansionLemmas.Simulation.{along_back, pre_order_back}
use Rattle.lft_program.specs.{Located.{AreLocated, Located}, inner.Nests.IsInstanceOf}
use Rattle.lft_program.proofs.{Entering.{HasNumber, numbers_go_along}, Valuing.{HasValues, main_values, values_go_along}, Zipping.{same_values, zip_of}}

map_itself : {X Y : Type 0} (f : X → Y) (g : Y → X) (xs : List X) → ((x : X) → g (f x) ≡ x) → map g (map f xs) ≡ xs
map_itself f g [] e = refl
map_itself f g (x ∷ xs) e = let a : g (f x) ≡ x = e x in let b : map g (map f xs) ≡ xs = map_itself f g xs e in cc

-- the instance that a path leads to; where it leads nowhere, which no walk's path does, the main one
abbrev pub locate : FileTree → ReactorTree → List ℕ → Located
locate tree main path = record { path = path; inside = unwrap_or (along (entered tree) (main_instance main) path) (main_instance main) }

module _ (tree : FileTree) (contents : List Contents) (main : ℕ) (first : ReactorTree) (instances : List Instance) (are : AreContents (reactors_of tree) contents) (is_main : main_of tree ≡ Some first) (main_number : slice_get (reactors_of tree) main ≡ Some first) (w : IsWalk contents main instances) where
  abbrev pub all_located : List Located
  all_located = map (locate tree first) w.paths

  pub located_paths : map (λ l. l.path) all_located ≡ w.paths
  located_paths = map_itself (locate tree first) (λ l. l.path) w.paths (λ p. refl)

  located_from : (n : ℕ) (l : Located) → slice_get all_located n ≡ Some l → (p : List ℕ) × (slice_get w.paths n ≡ Some p) × (locate tree first p ≡ l)
  located_from n l e = mapped_from (locate tree first) w.paths n l e

  -- what a number on the way leads to is what the path leads to
  inside_is : (p : List ℕ) (r : ℕ) → along (contained contents) main p ≡ Some r → (along (entered tree) (main_instance first) p ≡ Some (locate tree first p).inside) × HasNumber (reactors_of tree) (locate tree first p).inside r
  inside_is p r e =
      let b = along_back (HasNumber (reactors_of tree)) (entered tree) (contained contents) (numbers_go_along tree contents are) (main_instance first) main p r main_number e in
      let same : b.0 ≡ (locate tree first p).inside = sym (ap (λ o. unwrap_or o (main_instance first)) b.1) in
      (b.1 ∙ ap Some same, subst (λ x. HasNumber (reactors_of tree) x r) same b.2)

  pub are_located : AreLocated tree all_located
  are_located = record {
    main = first;
    is_main = is_main;
    in_order = subst (λ l. IsPreOrder (entered tree) (main_instance first) l) (sym located_paths) (pre_order_back (HasNumber (reactors_of tree)) (entered tree) (contained contents) (main_instance first) main w.paths (numbers_go_along tree contents are) main_number w.in_order);
    inside = λ n l e. let f = located_from n l e in let x = w.in_order.each n f.0 f.1 in subst (λ l. along (entered tree) (main_instance first) l.path ≡ Some l.inside) f.2 (inside_is f.0 x.0 x.1).0;
  }

  long : length all_located ≡ length instances
  long = length-map w.paths (locate tree first) ∙ sym w.as_long

  pub are_instances : AllZip (IsInstanceOf (reactors_of tree)) all_located instances
  are_instances = zip_of (IsInstanceOf (reactors_of tree)) all_located instances long (λ n l i e g.
      let f = located_from n l e in
      subst (λ l. IsInstanceOf (reactors_of tree) l i) f.2 (inside_is f.0 i.reactor (w.each n i f.0 g f.1).leads).1)

  pub are_values : (table : List Parameters) (values : List (List ℕ)) → AreParameters (reactors_of tree) table → NoneHolds (first_causes (reactors_of tree)) → HaveValues table instances values → LeadToValues contents table main instances values → (Any HasLongTime (reactors_of tree) → ⊥) → values ≡ map (λ l. l.inside.values) all_located
  are_values table values parameters none have lead short = same_values (λ l. l.inside.values) values all_located (zip_of (λ v l. v ≡ l.inside.values) values all_located (have.as_long ∙ sym long) each)
    where
      each : (n : ℕ) (v : List ℕ) (l : Located) → slice_get values n ≡ Some v → slice_get all_located n ≡ Some l → v ≡ l.inside.values
      each n v l e g =
          let f = located_from n l g in
          let i = get_there instances n (let a = slice_get_within values n v e in let b = have.as_long in omega arith) in
          let b = along_back (HasValues (reactors_of tree)) (entered tree) (entered_by_number contents table) (values_go_along tree contents table are parameters none short) (main_instance first) (main, defaults_of table main) f.0 (i.0.reactor, v) (main_values (reactors_of tree) table parameters none short main first main_number) (lead w n i.0 f.0 v i.1 f.1 e) in
          let same : b.0 ≡ (locate tree first f.0).inside = sym (ap (λ o. unwrap_or o (main_instance first)) b.1) in
          b.2.1 ∙ ap (λ x. x.values) same ∙ ap (λ l. l.inside.values) f.2
