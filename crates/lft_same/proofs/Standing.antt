-- A step of a core instance leads where one of the instance leads for which it stands.
use Rattle.std.proofs.Common.{◌≡◌, ℕ, true, List, map, Option, Some, None, Contains, option_map, slice_get, refl, sym, ap, subst, ◌∙◌}
use Rattle.std.specs.{List.AllZip, Option.option_and_then}
use Rattle.lft_lists.proofs.{Mapped.option_map_some, Places.same_some, Members.{Mem, contains_mem, mem_get}}
use Rattle.lft_tree.specs.{Tree.{AssignmentTree, InstanceTree, ReactorTree, instances_of, reactors_of}, View.tree_view, declared.ast.Ast.Ast}
use Rattle.lft_resolve.specs.Causes.{NoneHolds, causes}
use Rattle.lft_resolve.specs.Instances.{Inside as CoreInside, entered as core_entered, given_in as core_given_in, main_instance as core_main, main_of as core_main_of, reactor_named}
use Rattle.lft_resolve.proofs.{Directed.AllZip-to, Files.AllZip-from}
use Rattle.lft_whole.specs.declared.sources.source.SourceFile.{SourceFile}
use Rattle.lft_classes.specs.declared.shapes.Shape.{Shape}
use Rattle.lft_elaborate.specs.inner.{Meanings.shape_inside, Values.{Valued, main_setting, main_values as main_values_of}}
use Rattle.lft_lower.specs.inner.Reactors.{AreShapesOfFiles, IsLowering}
use Rattle.lft_same.specs.Expanded.{Instances.{Inner, Inside, Widths, entered_instance, inners, inside_of, main_class_instance}, Reactors.{Class, main_of}}
use Rattle.lft_same.specs.inner.{Fits.Fits.Fits, Times.IsKnown}
use Rattle.lft_same.proofs.{FitsLemmas.{Giving.find_some, Nested.main_law, Ports.shape_is_inside}, Instances.{AreWidthsFound, StandsFor}}
use Rattle.lft_same.proofs.{Found.shape_of_setting, Inners.{IsInner, instances_alike}, Known.{given_time, known_law}, Members.here}
use Rattle.lft_same.proofs.{Paths.{Both, both_at, neither}, Reactors.{has_reactor, main_found, reactor_found}, Settings.nested}
use Rattle.lft_same.proofs.Times.{inside_times, inside_values, main_times, main_values}

-- the law of the main setting, of the shapes of a program
main_fits_at : (files : List SourceFile) (shapes : List Shape) → AreShapesOfFiles files shapes → (t : Valued) → main_setting shapes ≡ Some t → (c : Class) × (main_of files ≡ Some c) × Fits files shapes t (main_class_instance files c)
main_fits_at files shapes (scopes, n, is, same) = subst (λ l. (t : Valued) → main_setting l ≡ Some t → (c : Class) × (main_of files ≡ Some c) × Fits files l t (main_class_instance files c)) same (main_law files scopes n is)

module _ (files : List SourceFile) (tree : Ast) (low : IsLowering files tree) where
  -- the main core instance stands for the main instance
  pub main_stands : (r : ReactorTree) → core_main_of (tree_view tree) ≡ Some r → (c : Class) × (main_of files ≡ Some c) × StandsFor files tree low (main_class_instance files c) (core_main r)
  main_stands r found =
      let (t, set, is) = main_found files tree low r found in
      let (c, main, fits) = main_fits_at files low.settings.shapes.items low.program.shapes t set in
      let of_setting = option_map_some main_of_shape (slice_get low.settings.shapes.items 0) t set in
      let first : slice_get low.settings.shapes.items 0 ≡ Some is.shape = ap (λ (v : Valued). slice_get low.settings.shapes.items v.shape) of_setting.2 ∙ shape_of_setting low.settings is.number t is.shape is.is_setting is.is_shape in (
        c,
        main,
        record {
          number = is.number;
          used = is.used;
          setting = t;
          is_setting = is.is_setting;
          shape = is.shape;
          is_shape = is.is_shape;
          fits = fits;
          listed = is.listed;
          reactor = is.reactor;
          times = main_times files low.settings.shapes.items is.shape c r low.program.shapes first main is.reactor.parameters;
          timed = main_values files low.settings.shapes.items is.shape c r low.program.shapes first main is.reactor.parameters r.is_main (is_main r found) is.reactor.defaults;
        },
      )
    where
      is_main : (r : ReactorTree) → core_main_of (tree_view tree) ≡ Some r → r.is_main ≡ true
      is_main r e = (find_some (λ (r : ReactorTree). r.is_main) (reactors_of (tree_view tree)) r e).1

      main_of_shape : Shape → Valued
      main_of_shape main = record { shape = 0; values = main_values_of main }

  module _ (none : NoneHolds (causes (tree_view tree))) (w : Widths) (found : AreWidthsFound files tree low w) (x : Inside) (core : CoreInside) (s : StandsFor files tree low x core) where
    -- what `new` gives is known
    given_known : (i : InstanceTree) → Mem i (instances_of core.reactor) → (a : AssignmentTree) → Contains i.given a → IsKnown core.reactor.parameters a.value
    given_known i stands a given = known_law (tree_view tree) core.reactor a.value none s.listed (given_time core.reactor i a stands (contains_mem a i.given given))

    abbrev made_of : InstanceTree → ReactorTree → CoreInside
    made_of i r = record { reactor = r; values = map (core_given_in core i.given) r.parameters }

    -- an instance in the core instance stands for the one of the same member
    inner_stands : (k : ℕ) (i : InstanceTree) (j : Inner) → slice_get (instances_of core.reactor) k ≡ Some i → IsInner files tree low x core s i j → (inner : CoreInside) × (y : Inside) × (option_map (made_of i) (reactor_named (reactors_of (tree_view tree)) i.reactor) ≡ Some inner) × (inside_of files x j.new ≡ Some y) × StandsFor files tree low y inner
    inner_stands k i j at one =
        let r = has_reactor tree none core.reactor k i s.listed at in
        let (u, in_u, is) = reactor_found files tree low s.number one.number s.setting s.shape i.reactor r.0 s.is_setting one.reactor r.1 in
        let (y, is_y, fits) = (nested files tree low).inside_fits s.setting u x one.number one.file one.instance s.fits one.at in_u in
        let outer : slice_get low.settings.shapes.items s.setting.shape ≡ Some s.shape = shape_of_setting low.settings s.number s.setting s.shape s.is_setting s.is_shape in
        let inner : shape_inside low.settings.shapes.items s.shape one.number ≡ Some is.shape = shape_is_inside low.settings.shapes.items one.number s.setting u s.shape is.shape outer in_u (shape_of_setting low.settings is.number u is.shape is.is_setting is.is_shape) in (
          made_of i r.0,
          y,
          ap (option_map (made_of i)) r.1,
          ap (inside_of files x) one.new ∙ is_y,
          record {
            number = is.number;
            used = is.used;
            setting = u;
            is_setting = is.is_setting;
            shape = is.shape;
            is_shape = is.is_shape;
            fits = fits;
            listed = is.listed;
            reactor = is.reactor;
            times = inside_times files (here files tree low x core s) s.setting u x y core one.number one.file one.instance is.shape r.0 i.given low.program.shapes outer s.fits one.at in_u is_y s.times one.given (given_known i (mem_get (instances_of core.reactor) k i at)) inner is.reactor.parameters;
            timed = inside_values files (here files tree low x core s) s.setting u x y core.reactor.parameters one.number one.file one.instance is.shape r.0 i.given r.0.is_main low.program.shapes outer s.fits one.at in_u is_y s.timed one.given (given_known i (mem_get (instances_of core.reactor) k i at)) inner is.reactor.parameters is.reactor.defaults;
          },
        )

    abbrev Stand : CoreInside → Inside → Type 0
    Stand c y = StandsFor files tree low y c

    -- so does each step
    inners_stand : (k : ℕ) (i : InstanceTree) (j : Inner) → slice_get (instances_of core.reactor) k ≡ Some i → IsInner files tree low x core s i j → Both Stand (option_map (made_of i) (reactor_named (reactors_of (tree_view tree)) i.reactor)) (inside_of files x j.new)
    inners_stand k i j at one = let t = inner_stands k i j at one in both_at Stand (option_map (made_of i) (reactor_named (reactors_of (tree_view tree)) i.reactor)) (inside_of files x j.new) t.0 t.1 t.2 t.3 t.4

    pub step_stands : (k : ℕ) → Both Stand (core_entered (tree_view tree) core k) (entered_instance files w x k)
    step_stands k = go (slice_get (instances_of core.reactor) k) (slice_get (inners files w x) k) refl refl
      where
        all : AllZip (IsInner files tree low x core s) (instances_of core.reactor) (inners files w x)
        all = instances_alike files tree low x core s w found

        go : (o : Option InstanceTree) (p : Option Inner) → slice_get (instances_of core.reactor) k ≡ o → slice_get (inners files w x) k ≡ p → Both Stand (option_and_then (λ i. option_map (made_of i) (reactor_named (reactors_of (tree_view tree)) i.reactor)) o) (option_and_then (λ j. inside_of files x j.new) p)
        go None None e f = neither
        go None (Some j) e f = absurd (let i = AllZip-from (IsInner files tree low x core s) (instances_of core.reactor) (inners files w x) all k j f in let q : None ≡ Some i.0 = sym e ∙ i.1 in cc)
        go (Some i) None e f = absurd (let j = AllZip-to (IsInner files tree low x core s) (instances_of core.reactor) (inners files w x) all k i e in let q : None ≡ Some j.0 = sym f ∙ j.1 in cc)
        go (Some i) (Some j) e f =
            let to = AllZip-to (IsInner files tree low x core s) (instances_of core.reactor) (inners files w x) all k i e in
            inners_stand k i j e (subst (IsInner files tree low x core s i) (same_some (slice_get (inners files w x) k) to.0 j to.1 f) to.2)
