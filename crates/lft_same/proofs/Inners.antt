-- The instances in a core instance are those in the instance that it stands for.
use Rattle.std.proofs.Common.{◌≡◌, ℕ, List, [], ◌∷◌, ◌++◌, map, flat_map, filter_map, Option, Some, option_map, slice_get, refl, sym, ap, subst, ◌∙◌, append-nil}
use Rattle.std.specs.Prelude.{string_bytes, unwrap_or}
use Rattle.std.{specs.List.AllZip, proofs.lemmas.{Grind.flat_map-append, List.Elements.filter_map-append}}
use Rattle.lft_lists.proofs.Mapped.{mapped}
use Rattle.lft_tree.specs.{Tree.{InstanceTree, InstanceMember, MemberTree, PortMember, instance_in, instances_of}, declared.ast.Ast.Ast}
use Rattle.lft_resolve.specs.Instances.{Inside as CoreInside}
use Rattle.lft_whole.specs.declared.{sources.source.SourceFile.SourceFile, tree.{Instance.Instance, Member.Member}}
use Rattle.lft_elaborate.specs.{Channels.Channels.below, inner.Widths.found_width}
use Rattle.lft_classes.specs.{declared.shapes.Inherited.Inherited, Shapes.width_of}
use Rattle.lft_lower.specs.inner.Meanings.{Meanings.named_in, Places.{Several, name_at, names_of}}
use Rattle.lft_lower.specs.inner.Lowered.{AreTimesGiven, AreInstances, IsLowered, instances, no_instances, reactor_at, some_instances, time_at}
use Rattle.lft_lower.specs.inner.Reactors.{IsLowering}
use Rattle.lft_same.specs.Expanded.{Instances.{Inner, Inside, Widths, inners, inners_at, numbers, name_with_number}, Reactors.members_of}
use Rattle.lft_same.proofs.{ExpandedLemmas.Flattened.map_twice, Instances.{AreWidthsFound, StandsFor}}
use Rattle.lft_same.proofs.{Listed.{all_mapped, none_mapped, zipped_append, zipped_maps, zipped_same}, Lowered.{Appends, Becomes, of_connection, of_reaction}}
use Rattle.lft_same.proofs.Members.{here, members_alike, never_of, numbers_are, of_class}
use Rattle.lft_whole.specs.declared.tree.Member.TheVariants as member

module _ (files : List SourceFile) (tree : Ast) (low : IsLowering files tree) (x : Inside) (core : CoreInside) (s : StandsFor files tree low x core) where
  -- an instance in the core instance and one in the instance are of the same member
  pub record IsInner (i : InstanceTree) (j : Inner) : Type 0 where
    pub name : i.name ≡ j.name
    pub number : ℕ
    pub file : ℕ
    pub instance : Instance
    pub at : slice_get (members_of files x.class) number ≡ Some (file, member.Instance instance)
    pub new : ◌≡◌ {A = ℕ × Instance} j.new (file, instance)
    pub reactor : reactor_at low.names (here files tree low x core s) number ≡ Some i.reactor
    pub given : AreTimesGiven (here files tree low x core s) number i.given

  -- so it is of the instances in both, in order
  abbrev AreInners : Widths → List MemberTree → List (ℕ × (ℕ × Member)) → Type 0
  AreInners w a b = AllZip IsInner (filter_map instance_in a) (flat_map (inners_at w x) b)

  inners_append : (w : Widths) → Appends (AreInners w)
  inners_append w = record {
    nothing = tt;
    append = λ a b c d p q. subst (λ l. AllZip IsInner l (flat_map (inners_at w x) (c ++ d))) (sym (filter_map-append instance_in a b)) (subst (AllZip IsInner (filter_map instance_in a ++ filter_map instance_in b)) (sym (flat_map-append (inners_at w x) c d)) (zipped_append IsInner (filter_map instance_in a) (filter_map instance_in b) (flat_map (inners_at w x) c) (flat_map (inners_at w x) d) p q));
  }

  module _ (w : Widths) (found : AreWidthsFound files tree low w) where
    inner_at : (n : ℕ) (m : Inherited) (new : List MemberTree) → Becomes low.names (here files tree low x core s) core.reactor.members (never_of files tree low x core s) n m new → AreInners w new ((n, (m.file, m.member.now)) ∷ [])
    inner_at n m new made = of m.member.now refl (numbers_are files tree low x core s w found n m made.at made.measured) made.lowered
      where
        f : Option ℕ
        f = found_width low.settings s.number n

        none : filter_map instance_in new ≡ [] → AllZip IsInner (filter_map instance_in new) []
        none e = subst (λ l. AllZip IsInner l []) (sym e) tt

        of : (y : Member) → m.member.now ≡ y → numbers (width_of y) (w x n) ≡ map (λ k. option_map (λ _. k) f) (below (unwrap_or f 1)) → IsLowered low.names (here files tree low x core s) n made.before new made.after y → AreInners w new ((n, (m.file, y)) ∷ [])
        of (member.Port p) is numbers_is l = none (ap (filter_map instance_in) l.1 ∙ none_mapped instance_in (λ name. PortMember (record { name = name; is_input = p.is_input })) (λ name. refl) (names_of (named_in (here files tree low x core s) (string_bytes p.name.text) n)))
        of (member.Timer t) is numbers_is l = none (ap (filter_map instance_in) l.3)
        of (member.Action a) is numbers_is l = none (ap (filter_map instance_in) l.3)
        of (member.Reaction r) is numbers_is l = none (of_reaction instance_in (λ q. refl) (here files tree low x core s) r made.before new made.after l.1).1
        of (member.Connection c) is numbers_is l = none (of_connection instance_in (λ c. refl) _ _ c.is_broadcast (time_at c.delay) new l.4)
        of (member.Foreign what at) is numbers_is l = absurd l
        of (member.Instance i) is numbers_is l = by new l.1
          where
            thing : Several
            thing = named_in (here files tree low x core s) (string_bytes i.name.text) n

            inner_of : Option ℕ → Inner
            inner_of number = record { name = name_with_number (string_bytes i.name.text) number; new = (m.file, i) }

            number_of : ℕ → Option ℕ
            number_of k = option_map (λ _. k) f

            whole : flat_map (inners_at w x) ((n, (m.file, member.Instance i)) ∷ []) ≡ map (λ k. inner_of (number_of k)) (below (unwrap_or f 1))
            whole = append-nil (map inner_of (numbers i.width (w x n))) ∙ ap (map inner_of) numbers_is ∙ map_twice number_of inner_of (below (unwrap_or f 1))

            at : slice_get (members_of files x.class) n ≡ Some (m.file, member.Instance i)
            at = ap (λ l. slice_get l n) (sym (of_class files tree low x core s).members) ∙ mapped (λ (m : Inherited). (m.file, m.member.now)) s.shape.members.items n m made.at ∙ ap (λ y. Some (located y)) is
              where
                located : Member → ℕ × Member
                located y = (m.file, y)

            by : (new : List MemberTree) → AreInstances low.names (here files tree low x core s) n (string_bytes i.name.text) new → AllZip IsInner (filter_map instance_in new) (flat_map (inners_at w x) ((n, (m.file, member.Instance i)) ∷ []))
            by _ (no_instances nothing) = subst (AllZip IsInner []) (sym (whole ∙ ap (λ k. map (λ k. inner_of (number_of k)) (below k)) nothing)) tt
            by _ (some_instances reactor given is_reactor are) = subst (AllZip IsInner (filter_map instance_in (instances thing reactor given))) (sym whole) (subst (λ l. AllZip IsInner l (map (λ k. inner_of (number_of k)) (below (unwrap_or f 1)))) (sym core_is) (zipped_maps IsInner (λ k. tree_of (name_at thing k)) (λ k. inner_of (number_of k)) each (below (unwrap_or f 1))))
              where
                tree_of : List ℕ → InstanceTree
                tree_of name = record { name = name; reactor = reactor; given = given }

                core_is : filter_map instance_in (instances thing reactor given) ≡ map (λ k. tree_of (name_at thing k)) (below (unwrap_or f 1))
                core_is = all_mapped instance_in (λ name. InstanceMember (tree_of name)) tree_of (λ name. refl) (names_of thing) ∙ map_twice (name_at thing) tree_of (below (unwrap_or f 1))

                each : (k : ℕ) → IsInner (tree_of (name_at thing k)) (inner_of (number_of k))
                each k = record { name = refl; number = n; file = m.file; instance = i; at = at; new = refl; reactor = is_reactor; given = are }

    -- the instances go together, in order
    pub instances_alike : AllZip IsInner (instances_of core.reactor) (inners files w x)
    instances_alike = members_alike files tree low x core s (AreInners w) (inners_append w) inner_at

    -- so they have the same names
    pub names_alike : map (λ i. i.name) (instances_of core.reactor) ≡ map (λ i. i.name) (inners files w x)
    names_alike = zipped_same IsInner (λ (i : InstanceTree). i.name) (λ (j : Inner). j.name) (λ i j one. one.name) (instances_of core.reactor) (inners files w x) instances_alike
