-- The places of a reference in a core reactor stand for the channels of the reference, in order.
use Rattle.std.proofs.Common.{◌≡◌, ℕ, zero, suc, All, Bool, false, true, List, [], ◌∷◌, ◌++◌, map, flat_map, filter_map, Option, Some, None, option_map, option_to_list, slice_get, refl, sym, ap, subst, ◌∙◌}
use Rattle.std.specs.Prelude.{bytes_eq, is_some, string_bytes, unwrap_or}
use Rattle.std.{specs.{List.position, Option.{option_and_then, option_map_or}}, proofs.lemmas.List.append-nil}
use Rattle.lft_lists.proofs.{Mapped.{mapped, option_map_some}, Members.{Mem, filter_map-flat_map, filter_map-map, mem_from_flat, mem_from_map}}
use Rattle.lft_lists.proofs.Places.{Some_same}
use Rattle.lft_program.proofs.{Singles.place_found, Zipping.then_some}
use Rattle.lft_tree.specs.{Tree.{ReactorTree, RefTree, instances_of}, declared.ast.Ast.Ast}
use Rattle.lft_resolve.specs.{Instances.{Thing, stands_for, thing_at}, inner.Places.place}
use Rattle.lft_whole.specs.declared.{sources.source.SourceFile.SourceFile, tree.{Instance.Instance, Member.Member, Name.Name, Reference.Reference}}
use Rattle.lft_elaborate.specs.Channels.Channels.{below}
use Rattle.lft_elaborate.specs.inner.{Channels.Lowered.{inner, own}, Names.name_in, Values.{Valued, inside, setting_of, values_inside}}
use Rattle.lft_elaborate.specs.inner.{Meanings.{meaning_named, shape_inside}, Widths.found_width}
use Rattle.lft_elaborate.specs.declared.meanings.Meaning.{Meaning}
use Rattle.lft_classes.specs.declared.shapes.{Child.Child, Inherited.Inherited, InheritedParameter.InheritedParameter, Shape.Shape}
use Rattle.lft_classes.specs.declared.shapes.OwnThing.{OwnThing as ShapeThing}
use Rattle.lft_classes.specs.{inner.Shapes.{child_at, thing_named}, Shapes.{name_of, width_of}}
use Rattle.lft_lower.specs.inner.Meanings.Meanings.{Here, Means, all_places, inner_width, meaning_of_reference, member_with_width, member_name, places_in, places_of, port_of, thing_in}
use Rattle.lft_lower.specs.inner.Meanings.Places.{Several, count_of, inner_places, name_at, names_of, own_places}
use Rattle.lft_lower.specs.inner.Reactors.{IsLowering}
use Rattle.lft_same.specs.inner.Expanded.Core.{things_for}
use Rattle.lft_same.specs.Expanded.Instances.{Inner as InnerInstance, Inside, Widths, inners, inside_of, numbers, numbers_at, numbers_named, place_named, name_with_number}
use Rattle.lft_same.specs.Expanded.{Reactors.members_of, Whole.{channels, crossed, inner_thing, inside_named, new_in, things_named}}
use Rattle.lft_same.proofs.ExpandedLemmas.{Crossed.{crossed_map, crossed_nil, places_crossed}, Flattened.map_twice}
use Rattle.lft_same.proofs.FitsLemmas.{Channels.{crossed_first, is_found}, MemberNames.{member_found, member_lost}, Ports.port_is, Shapes.flat_alike}
use Rattle.lft_same.proofs.{Instances.AreWidthsFound, Kept.{kept_or, of_all, some_or}}
use Rattle.lft_same.proofs.Settings.{HasSetting, IsFoundIn, found_in, here, nested, numbers_are, of_class, shape_there, member_of}
use Rattle.lft_elaborate.specs.declared.meanings.Meaning.TheVariants as meaning
use Rattle.lft_whole.specs.declared.tree.Member.TheVariants as member
use Rattle.lft_classes.specs.declared.shapes.OwnThing.TheVariants as thing

-- ---- names in the core

-- the name of a member that has one
pub named : (m : Member) (q : List ℕ) → option_map (λ (n : Name). string_bytes n.text) (name_of m) ≡ Some q → name_in m ≡ q
named (member.Port p) q e = Some_same (string_bytes p.name.text) q e
named (member.Timer t) q e = Some_same (string_bytes t.name.text) q e
named (member.Action a) q e = Some_same (string_bytes a.name.text) q e
named (member.Instance i) q e = Some_same (string_bytes i.name.text) q e
named (member.Reaction r) q e = absurd (cc)
named (member.Connection c) q e = absurd (cc)
named (member.Foreign what at) q e = absurd (cc)

-- a name of an instance and one of a port in it
abbrev inner_ref : List ℕ × List ℕ → RefTree
inner_ref p = inner p.0 p.1

-- the places of a bank's multiport, by names
crossed_places : (members ports : Several) (interleaved : Bool) → inner_places members ports interleaved ≡ map inner_ref (crossed interleaved (names_of members) (names_of ports))
crossed_places members ports interleaved =
    ap (map (λ (p : ℕ × ℕ). inner (name_at members p.0) (name_at ports p.1))) (places_crossed (count_of members) (count_of ports) interleaved)
    ∙ sym (map_twice (λ (p : ℕ × ℕ). pair (name_at members p.0) (name_at ports p.1)) inner_ref (crossed interleaved (below (count_of members)) (below (count_of ports))))
    ∙ ap (map inner_ref) (sym (crossed_map (name_at members) (name_at ports) interleaved (below (count_of members)) (below (count_of ports))))
  where
    pair : List ℕ → List ℕ → List ℕ × List ℕ
    pair a b = (a, b)

-- the numbers of a port of this name in the instances of that name
abbrev pub inner_numbers : List SourceFile → Widths → Inside → List ℕ → List ℕ → List (Option ℕ)
inner_numbers files w x b p = flat_map (λ y. numbers_named files w y p) (option_to_list (inside_named files x b))

-- the core names of all that a name stands for, or that of a port behind an instance's
abbrev pub refs_named : List SourceFile → Widths → Inside → Bool → List ℕ → Option (List ℕ) → List RefTree
refs_named files w x interleaved q None = map (λ n. own (name_with_number q n)) (numbers_named files w x q)
refs_named files w x interleaved b (Some p) = map (λ n. inner (name_with_number b n.0) (name_with_number p n.1)) (crossed interleaved (numbers_named files w x b) (inner_numbers files w x b p))

module _ (files : List SourceFile) (tree : Ast) (low : IsLowering files tree) (w : Widths) (found : AreWidthsFound files tree low w) where
  module _ (x : Inside) (s : HasSetting files tree low x) where
    -- the numbers of the member of a name
    pub numbers_there : (q : List ℕ) (m : ℕ) (i : Inherited) → thing_named s.shape q ≡ Some (thing.Member m) → slice_get s.shape.members.items m ≡ Some i → numbers_named files w x q ≡ numbers (width_of i.member.now) (w x m)
    numbers_there q m i is at =
        ap (λ o. option_map_or (numbers_at files w x) o (None ∷ [])) (member_found files s.shape x (of_class files tree low x s) q m is)
        ∙ ap (λ o. option_map_or (λ (y : ℕ × Member). numbers (width_of y.1) (w x m)) o (None ∷ [])) (ap (λ l. slice_get l m) (sym (of_class files tree low x s).members) ∙ mapped (λ (i : Inherited). (i.file, i.member.now)) s.shape.members.items m i at)

    -- the names in the core of what a name stands for are its numbers behind it
    pub own_names : (q : List ℕ) (th : ShapeThing) → thing_named s.shape q ≡ Some th → names_of (thing_in (here files tree low x s) th) ≡ map (name_with_number q) (numbers_named files w x q)
    own_names q (thing.Member m) is =
        let i = ((of_class files tree low x s).names q (thing.Member m)).0 is in
        let name : unwrap_or (option_map (λ (m : Inherited). name_in m.member.now) (slice_get s.shape.members.items m)) [] ≡ q = ap (λ o. unwrap_or (option_map (λ (m : Inherited). name_in m.member.now) o) []) i.1 ∙ named i.0.member.now q i.2 in
        ap (λ z. names_of (several z)) name
        ∙ sym (map_twice number (name_with_number q) (below (count_of (several q))))
        ∙ ap (map (name_with_number q)) (sym (numbers_are files tree low x s w found m i.0 i.1))
        ∙ ap (map (name_with_number q)) (sym (numbers_there q m i.0 is i.1))
      where
        number : ℕ → Option ℕ
        number k = option_map (λ _. k) (found_width low.settings s.number m)

        several : List ℕ → Several
        several z = record { name = z; width = found_width low.settings s.number m }
    own_names q (thing.Parameter p) is =
        let i = ((of_class files tree low x s).names q (thing.Parameter p)).0 is in
        let name : unwrap_or (option_map (λ (p : InheritedParameter). string_bytes p.parameter.now.name.text) (slice_get s.shape.parameters.items p)) [] ≡ q = ap (λ o. unwrap_or (option_map (λ (p : InheritedParameter). string_bytes p.parameter.now.name.text) o) []) i.1 ∙ i.2 in
        ap (λ z. name_with_number z None ∷ []) name
        ∙ ap (λ o. map (name_with_number q) (option_map_or (numbers_at files w x) o (None ∷ []))) (sym (member_lost files s.shape x (of_class files tree low x s) q none))
      where
        none : (m : ℕ) → thing_named s.shape q ≡ Some (thing.Member m) → ⊥
        none m f = let e : Some (thing.Parameter p) ≡ Some (thing.Member m) = sym is ∙ f in absurd (cc)

    -- the places of a thing of the reactor itself
    own_refs : (q : List ℕ) (th : ShapeThing) → thing_named s.shape q ≡ Some th → own_places (thing_in (here files tree low x s) th) ≡ map (λ n. own (name_with_number q n)) (numbers_named files w x q)
    own_refs q th is =
        sym (map_twice (name_at (thing_in (here files tree low x s) th)) own (below (count_of (thing_in (here files tree low x s) th))))
        ∙ ap (map own) (own_names q th is)
        ∙ map_twice (name_with_number q) own (numbers_named files w x q)

  module _ (x : Inside) (s : HasSetting files tree low x) (b p : List ℕ) (m : ℕ) (is : thing_named s.shape b ≡ Some (thing.Member m)) (shape : Shape) (is_shape : shape_inside low.settings.shapes.items s.shape m ≡ Some shape) (port : ℕ) (is_port : thing_named shape p ≡ Some (thing.Member port)) where
    abbrev h : Here
    h = here files tree low x s

    -- the setting in the instance
    pub u : (u : Valued) × (inside low.settings.shapes.items s.setting m ≡ Some u) × (slice_get low.settings.shapes.items u.shape ≡ Some shape)
    u =
        let child = then_some (λ (child : Child). slice_get low.settings.shapes.items child.shape) (child_at s.shape.children.items m) shape is_shape in
        let v : Valued = record { shape = child.0.shape; values = values_inside s.shape s.setting.values child.0.given.items shape } in (
          v,
          ap (option_and_then (λ (o : Shape). option_and_then (setting_of low.settings.shapes.items o s.setting.values) (child_at o.children.items m))) (shape_there files tree low x s)
              ∙ ap (option_and_then (setting_of low.settings.shapes.items s.shape s.setting.values)) child.1
              ∙ ap (option_map (λ (inner : Shape). record { shape = child.0.shape; values = values_inside s.shape s.setting.values child.0.given.items inner })) child.2,
          child.2,
        )

    -- the instance, as a member
    pub its_instance : (file : ℕ) × (i : Instance) × (slice_get (members_of files x.class) m ≡ Some (file, member.Instance i))
    its_instance = (nested files tree low).instance s.setting u.0 x m s.fits u.1

    -- what is in it
    pub y : (y : Inside) × (inside_of files x (its_instance.0, its_instance.1) ≡ Some y)
    y = let r = (nested files tree low).inside_fits s.setting u.0 x m its_instance.0 its_instance.1 s.fits its_instance.2 u.1 in (r.0, r.1)

    is_place : place_named files x b ≡ Some m
    is_place = member_found files s.shape x (of_class files tree low x s) b m is

    pub inside_is : inside_named files x b ≡ Some y.0
    inside_is =
        ap (option_and_then (λ k. option_and_then (λ m. option_and_then (inside_of files x) (new_in m)) (slice_get (members_of files x.class) k))) is_place
        ∙ ap (option_and_then (λ m. option_and_then (inside_of files x) (new_in m))) its_instance.2
        ∙ y.1

    -- the names of the ports
    abbrev ports : Several
    ports = port_of h m port

    port_names : (c : ℕ) → unwrap_or (found_width low.settings s.number m) 1 ≡ suc c → names_of ports ≡ map (name_with_number p) (inner_numbers files w x b p)
    port_names c some =
        ap (λ (o : Option Shape). names_of (record { name = unwrap_or (option_map (λ (z : Shape). member_name z port) o) []; width = inner_width h m port })) is_shape
        ∙ ap (λ (o : Option ℕ). names_of (member_with_width shape port (option_and_then (λ k. found_width low.settings k port) o))) f.is_number
        ∙ ap (λ (z : Shape). names_of (member_with_width z port (found_width low.settings f.setting.number port))) (sym same)
        ∙ own_names y.0 f.setting p (thing.Member port) (ap (λ (z : Shape). thing_named z p) same ∙ is_port)
        ∙ ap (map (name_with_number p)) (sym (ap (λ o. flat_map (λ y. numbers_named files w y p) (option_to_list o)) inside_is ∙ append-nil (numbers_named files w y.0 p)))
      where
        f : IsFoundIn files tree low x s m y.0
        f = found_in files tree low x s m its_instance.0 c its_instance.1 y.0 its_instance.2 y.1 some

        same : f.setting.shape ≡ shape
        same =
            let v : f.setting.setting ≡ u.0 = Some_same f.setting.setting u.0 (sym f.is_inside ∙ u.1) in
            Some_same f.setting.shape shape (sym (shape_there files tree low y.0 f.setting) ∙ ap (λ (v : Valued). slice_get low.settings.shapes.items v.shape) v ∙ u.2)

    -- the places of its ports
    pub inner_refs : (interleaved : Bool) → inner_places (thing_in h (thing.Member m)) ports interleaved ≡ refs_named files w x interleaved b (Some p)
    inner_refs interleaved =
        crossed_places (thing_in h (thing.Member m)) ports interleaved
        ∙ ap (map inner_ref) (crossed_names ∙ crossed_map (name_with_number b) (name_with_number p) interleaved (numbers_named files w x b) (inner_numbers files w x b p))
        ∙ map_twice (λ (n : Option ℕ × Option ℕ). pair (name_with_number b n.0) (name_with_number p n.1)) inner_ref (crossed interleaved (numbers_named files w x b) (inner_numbers files w x b p))
      where
        pair : List ℕ → List ℕ → List ℕ × List ℕ
        pair a b = (a, b)

        instances_are : names_of (thing_in h (thing.Member m)) ≡ map (name_with_number b) (numbers_named files w x b)
        instances_are = own_names x s b (thing.Member m) is

        crossed_names : crossed interleaved (names_of (thing_in h (thing.Member m))) (names_of ports) ≡ crossed interleaved (map (name_with_number b) (numbers_named files w x b)) (map (name_with_number p) (inner_numbers files w x b p))
        crossed_names = by (unwrap_or (found_width low.settings s.number m) 1) refl
          where
            by : (c : ℕ) → unwrap_or (found_width low.settings s.number m) 1 ≡ c → crossed interleaved (names_of (thing_in h (thing.Member m))) (names_of ports) ≡ crossed interleaved (map (name_with_number b) (numbers_named files w x b)) (map (name_with_number p) (inner_numbers files w x b p))
            by zero e =
                let none : names_of (thing_in h (thing.Member m)) ≡ [] = ap (λ c. map (name_at (thing_in h (thing.Member m))) (below c)) e in
                let nor : map (name_with_number b) (numbers_named files w x b) ≡ [] = sym instances_are ∙ none in
                ap (λ (l : List (List ℕ)). crossed interleaved l (names_of ports)) none
                ∙ crossed_nil interleaved (names_of ports)
                ∙ sym (crossed_nil interleaved (map (name_with_number p) (inner_numbers files w x b p)))
                ∙ ap (λ (l : List (List ℕ)). crossed interleaved l (map (name_with_number p) (inner_numbers files w x b p))) (sym nor)
            by (suc c) e =
                ap (λ (l : List (List ℕ)). crossed interleaved l (names_of ports)) instances_are
                ∙ ap (crossed interleaved (map (name_with_number b) (numbers_named files w x b))) (port_names c e)

    -- the name of the member
    is_named : string_bytes its_instance.1.name.text ≡ b
    is_named =
        let g = ((of_class files tree low x s).names b (thing.Member m)).0 is in
        let o = member_of files tree low x s m its_instance.0 (member.Instance its_instance.1) its_instance.2 in
        let same : g.0 ≡ o.0 = Some_same g.0 o.0 (sym g.1 ∙ o.1) in
        Some_same (string_bytes its_instance.1.name.text) b (sym (ap (λ (z : Member). option_map (λ (n : Name). string_bytes n.text) (name_of z)) (ap (λ (i : Inherited). i.member.now) same ∙ o.2)) ∙ g.2)

    -- each of its channels is found
    pub inner_found : (path : List ℕ) (interleaved : Bool) (n : Option ℕ × Option ℕ) → Mem n (crossed interleaved (numbers_named files w x b) (inner_numbers files w x b p)) → inner_thing files w path x b p n ≡ None → ⊥
    inner_found path interleaved n k none =
        let first : Mem n.0 (numbers_named files w x b) = crossed_first interleaved (numbers_named files w x b) (inner_numbers files w x b p) n k in
        let own : numbers_named files w x b ≡ numbers its_instance.1.width (w x m) = ap (λ o. option_map_or (numbers_at files w x) o (None ∷ [])) is_place ∙ ap (λ o. option_map_or (λ (y : ℕ × Member). numbers (width_of y.1) (w x m)) o (None ∷ [])) its_instance.2 in
        is_found files w x m its_instance.0 its_instance.1 its_instance.2 path p n (subst (Mem n.0) own first) (ap (λ z. inner_thing files w path x z p n) is_named ∙ none)

  module _ (x : Inside) (s : HasSetting files tree low x) where
    -- the places of what a reference means, by its names
    meaning_refs : (interleaved : Bool) (q : List ℕ) (port : Option (List ℕ)) (z : Meaning) → meaning_named low.settings.shapes.items s.shape q port ≡ Some z → places_of (here files tree low x s) interleaved z ≡ refs_named files w x interleaved q port
    meaning_refs interleaved q None z e =
        let t = option_map_some (λ th. meaning.Own th) (thing_named s.shape q) z e in
        ap (places_of (here files tree low x s) interleaved) (sym t.2) ∙ own_refs x s q t.0 t.1
    meaning_refs interleaved q (Some p) z e =
        let b = port_is low.settings.shapes.items s.shape q p z e in
        ap (places_of (here files tree low x s) interleaved) (sym b.is_meant) ∙ inner_refs x s q p b.instance b.is_instance b.inner b.is_inner b.port b.is_port interleaved

    module _ (path : List ℕ) (r : ReactorTree) (same : map (λ i. i.name) (instances_of r) ≡ map (λ (i : InnerInstance). i.name) (inners files w x)) where
      -- an instance is at the same place in both
      place_same : (q : List ℕ) → position (λ i. bytes_eq q i.name) (instances_of r) ≡ position (λ (i : InnerInstance). bytes_eq q i.name) (inners files w x)
      place_same q = place_found (λ i. i.name) q (instances_of r) ∙ ap (place q) same ∙ sym (place_found (λ (i : InnerInstance). i.name) q (inners files w x))

      inner_same : (b p : List ℕ) (n : Option ℕ × Option ℕ) → stands_for r path (inner (name_with_number b n.0) (name_with_number p n.1)) ≡ inner_thing files w path x b p n
      inner_same b p n = ap (option_map (λ k. thing_at (path ++ k ∷ []) (name_with_number p n.1))) (place_same (name_with_number b n.0))

      -- names in the core stand for what the names in the language stand for
      refs_things : (interleaved : Bool) (q : List ℕ) (port : Option (List ℕ)) → things_for path r (refs_named files w x interleaved q port) ≡ things_named files w path x interleaved q port
      refs_things interleaved q None = own_kept (numbers_named files w x q)
        where
          own_kept : (ns : List (Option ℕ)) → filter_map (stands_for r path) (map (λ n. own (name_with_number q n)) ns) ≡ map (λ n. thing_at path (name_with_number q n)) ns
          own_kept [] = refl
          own_kept (n ∷ ns) = ap (λ (l : List Thing). thing_at path (name_with_number q n) ∷ l) (own_kept ns)
      refs_things interleaved b (Some p) =
          let ns = crossed interleaved (numbers_named files w x b) (inner_numbers files w x b p) in
          filter_map-map (λ (n : Option ℕ × Option ℕ). inner (name_with_number b n.0) (name_with_number p n.1)) (stands_for r path) ns
          ∙ ap (λ (f : Option ℕ × Option ℕ → Option Thing). filter_map f ns) (λ i n. inner_same b p n i)

      -- each of them stands for something
      refs_stand : (interleaved : Bool) (q : List ℕ) (port : Option (List ℕ)) (z : Meaning) → meaning_named low.settings.shapes.items s.shape q port ≡ Some z → (ref : RefTree) → Mem ref (refs_named files w x interleaved q port) → stands_for r path ref ≡ None → ⊥
      refs_stand interleaved q None z e ref k none =
          let n = mem_from_map (λ n. own (name_with_number q n)) (numbers_named files w x q) ref k in
          let f : Some (thing_at path (name_with_number q n.0)) ≡ None = ap (stands_for r path) n.2 ∙ none in absurd (cc)
      refs_stand interleaved q (Some p) z e ref k none =
          let b = port_is low.settings.shapes.items s.shape q p z e in
          let n = mem_from_map (λ (n : Option ℕ × Option ℕ). inner (name_with_number q n.0) (name_with_number p n.1)) (crossed interleaved (numbers_named files w x q) (inner_numbers files w x q p)) ref k in
          inner_found x s q p b.instance b.is_instance b.inner b.is_inner b.port b.is_port path interleaved n.0 n.1 (sym (inner_same q p n.0) ∙ ap (stands_for r path) n.2 ∙ none)

      -- what a reference means
      pub meaning_is : (ref : Reference) → Means (here files tree low x s) ref → (z : Meaning) × (meaning_of_reference (here files tree low x s) ref ≡ Some z)
      meaning_is ref means = of (meaning_of_reference (here files tree low x s) ref) refl
        where
          of : (o : Option Meaning) → meaning_of_reference (here files tree low x s) ref ≡ o → (z : Meaning) × (meaning_of_reference (here files tree low x s) ref ≡ Some z)
          of None e = absurd (let f : false ≡ true = sym (ap is_some e) ∙ means in cc)
          of (Some z) e = (z, e)

      -- its places by its names
      pub places_refs : (ref : Reference) → Means (here files tree low x s) ref → places_in (here files tree low x s) ref ≡ refs_named files w x ref.is_interleaved (string_bytes ref.head.text) (option_map (λ (p : Name). string_bytes p.text) ref.port)
      places_refs ref means =
          let z = meaning_is ref means in
          ap (λ o. unwrap_or (option_map (places_of (here files tree low x s) ref.is_interleaved) o) []) z.1
          ∙ meaning_refs ref.is_interleaved (string_bytes ref.head.text) (option_map (λ (p : Name). string_bytes p.text) ref.port) z.0 z.1

      -- the places of a reference stand for its channels, in order
      pub places_channels : (ref : Reference) → Means (here files tree low x s) ref → things_for path r (places_in (here files tree low x s) ref) ≡ channels files w path x ref
      places_channels ref means = ap (things_for path r) (places_refs ref means) ∙ refs_things ref.is_interleaved (string_bytes ref.head.text) (option_map (λ (p : Name). string_bytes p.text) ref.port)

      -- each of them for one
      pub places_stand : (ref : Reference) → Means (here files tree low x s) ref → (p : RefTree) → Mem p (places_in (here files tree low x s) ref) → stands_for r path p ≡ None → ⊥
      places_stand ref means p k none =
          let z = meaning_is ref means in
          refs_stand ref.is_interleaved (string_bytes ref.head.text) (option_map (λ (p : Name). string_bytes p.text) ref.port) z.0 z.1 p (subst (Mem p) (places_refs ref means) k) none

      -- the places of references stand for their channels, one after another
      pub all_channels : (refs : List Reference) → All (Means (here files tree low x s)) refs → things_for path r (all_places (here files tree low x s) refs) ≡ flat_map (channels files w path x) refs
      all_channels refs mean =
          filter_map-flat_map (places_in (here files tree low x s)) (stands_for r path) refs
          ∙ flat_alike (λ ref. things_for path r (places_in (here files tree low x s) ref)) (channels files w path x) refs (λ ref k. places_channels ref (of_all (Means (here files tree low x s)) refs mean ref k))

      pub all_stand : (refs : List Reference) → All (Means (here files tree low x s)) refs → (p : RefTree) → Mem p (all_places (here files tree low x s) refs) → stands_for r path p ≡ None → ⊥
      all_stand refs mean p k =
          let ref = mem_from_flat (places_in (here files tree low x s)) refs p k in
          places_stand ref.0 (of_all (Means (here files tree low x s)) refs mean ref.0 ref.1) p ref.2

      -- what a name in the core stands for
      abbrev pub thing_for : RefTree → Thing
      thing_for p = unwrap_or (stands_for r path p) (thing_at path p.head)

      pub all_things : (refs : List Reference) → All (Means (here files tree low x s)) refs → map thing_for (all_places (here files tree low x s) refs) ≡ flat_map (channels files w path x) refs
      all_things refs mean = kept_or (stands_for r path) (λ p. thing_at path p.head) (all_places (here files tree low x s) refs) (all_stand refs mean) ∙ all_channels refs mean

      pub each_stands : (refs : List Reference) → All (Means (here files tree low x s)) refs → (p : RefTree) → Mem p (all_places (here files tree low x s) refs) → stands_for r path p ≡ Some (thing_for p)
      each_stands refs mean p k = some_or (stands_for r path p) (thing_at path p.head) (all_stand refs mean p k)
