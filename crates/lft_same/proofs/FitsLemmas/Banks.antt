-- What a reactor needs it needs in its shape, and no bank needs the number of each of its instances.
use Rattle.std.proofs.Common.{◌≡◌, ℕ, true, List, map, Option, Some, None, codes, option_map, slice_get, refl, sym, ap, subst, ◌∙◌}
use Rattle.std.specs.Prelude.{find, is_some, string_bytes}
use Rattle.std.{specs.Option.option_and_then, proofs.lemmas.Slice.Eq.bytes_eq-Decides}
use Rattle.lft_lists.proofs.{Mapped.{mapped, mapped_from, option_map_some}, Members.get_mem, Places.Some_same}
use Rattle.lft_program.proofs.Zipping.{then_some}
use Rattle.lft_whole.specs.declared.{sources.source.SourceFile.SourceFile, tree.{Instance.Instance, Member.Member, Parameter.Parameter}}
use Rattle.lft_classes.specs.Needs.{Gives, NamedFor, Need}
use Rattle.lft_classes.specs.declared.{nesting.Nesting.Nesting, shapes.{Child.Child, Inherited.Inherited, InheritedParameter.InheritedParameter, Shape.Shape}}
use Rattle.lft_classes.specs.inner.Built.{Core, IsChildInstance, core, cores, instance_of, located_parameters}
use Rattle.lft_classes.specs.inner.{Needs.{HasMember, IsBankOf, NeedsName, by_instance as name_by_instance, by_member as name_by_member}, Nestings.IsNesting}
use Rattle.lft_classes.specs.inner.{Shapes.{child_at, child_in, inside as noted_inside, tables, thing_named}, Walks.{Has, IsReachable, further, itself}}
use Rattle.lft_classes.proofs.Needing.{declared, listed_all}
use Rattle.lft_elaborate.specs.inner.Used.{IsReached, main as reached_main, within}
use Rattle.lft_elaborate.specs.inner.Values.{Valued, inside, main_setting, main_values, setting_of, values_inside}
use Rattle.lft_same.specs.Expanded.{Instances.{Inside, inside_of, value_given_in}, Reactors.{Class, class_named, is_named, members_of, parameters_of}}
use Rattle.lft_same.specs.Expanded.Taken.{HasParameter, IsIndexFree, Needs, by_instance, by_member}
use Rattle.lft_same.specs.inner.Fits.Fits.{IsShapeOf, number_at}
use Rattle.lft_same.proofs.FitsLemmas.{ClassNames.names_law, Giving.find_some, Shapes.{named_here, shape_is}}
use Rattle.lft_whole.specs.declared.tree.Member.TheVariants as member
use Rattle.lft_classes.specs.declared.shapes.OwnThing.TheVariants as thing

abbrev valued_main : Shape → Valued
valued_main main = record { shape = 0; values = main_values main }

-- a parameter of a reactor is one of its shape
parameter_named : (files : List SourceFile) (shape : Shape) (c : Class) → IsShapeOf files shape c → (q : List ℕ) → is_some (find (λ (p : Parameter). is_named q p.name) (parameters_of files c)) ≡ true → (p : ℕ) × (thing_named shape q ≡ Some (thing.Parameter p))
parameter_named files shape c is q = go (find (λ (p : Parameter). is_named q p.name) (parameters_of files c)) refl
  where
    go : (o : Option Parameter) → find (λ (p : Parameter). is_named q p.name) (parameters_of files c) ≡ o → is_some o ≡ true → (p : ℕ) × (thing_named shape q ≡ Some (thing.Parameter p))
    go None e some = absurd (cc)
    go (Some z) e some =
        let found = find_some (λ (p : Parameter). is_named q p.name) (parameters_of files c) z e in
        let k = get_mem z (parameters_of files c) found.0 in
        let placed = mapped_from (λ (p : ℕ × Parameter). p.1) (located_parameters shape.parameters.items) k.0 z (ap (λ l. slice_get l k.0) is.parameters ∙ k.1) in
        let p = mapped_from (λ (p : InheritedParameter). (p.file, p.parameter.now)) shape.parameters.items k.0 placed.0 placed.1 in
        let same : p.0.parameter.now ≡ z = ap (λ (r : ℕ × Parameter). r.1) p.2 ∙ placed.2 in
        (k.0, (is.names q (thing.Parameter k.0)).1 (p.0, p.1, ap (λ (r : Parameter). string_bytes r.name.text) same ∙ sym ((bytes_eq-Decides q (string_bytes z.name.text)).0 found.1)))

-- the shape of a setting that is reached is reached
pub reached_shape : (shapes : List Shape) (t : Valued) → IsReached shapes t → IsReachable (noted_inside (tables shapes)) 0 t.shape
reached_shape shapes _ (reached_main {t} e) = let m = option_map_some valued_main (slice_get shapes 0) t e in subst (λ (v : Valued). IsReachable (noted_inside (tables shapes)) 0 v.shape) m.2 itself
reached_shape shapes _ (within {t} {u} k before in_u) = further k (reached_shape shapes t before) noted
  where
    outer : (outer : Shape) × (slice_get shapes t.shape ≡ Some outer) × (option_and_then (setting_of shapes outer t.values) (child_at outer.children.items k) ≡ Some u)
    outer = then_some (λ (outer : Shape). option_and_then (setting_of shapes outer t.values) (child_at outer.children.items k)) (slice_get shapes t.shape) u in_u.is_inside

    child : (child : Child) × (child_at outer.0.children.items k ≡ Some child) × (setting_of shapes outer.0 t.values child ≡ Some u)
    child = then_some (setting_of shapes outer.0 t.values) (child_at outer.0.children.items k) u outer.2

    made : Shape → Valued
    made inner = record { shape = child.0.shape; values = values_inside outer.0 t.values child.0.given.items inner }

    inner : (inner : Shape) × (slice_get shapes child.0.shape ≡ Some inner) × (made inner ≡ u)
    inner = option_map_some made (slice_get shapes child.0.shape) u child.2

    noted : noted_inside (tables shapes) t.shape k ≡ Some u.shape
    noted = ap (λ o. option_map (λ (c : Child). c.shape) (option_and_then (λ (l : List (Option Child)). child_at l k) o)) (mapped (λ (s : Shape). s.children.items) shapes t.shape outer.0 outer.1) ∙ ap (option_map (λ (c : Child). c.shape)) child.1 ∙ ap (λ (v : Valued). Some v.shape) inner.2

module _ (files : List SourceFile) (scopes : _) (n : Nesting) (is : IsNesting files scopes n) where
  module _ (s : ℕ) (shape : Shape) (c : Class) (is_shape : slice_get n.shapes.items s ≡ Some shape) (of_class : IsShapeOf files shape c) where
    is_core : slice_get (cores n.shapes.items) s ≡ Some (core shape)
    is_core = mapped core n.shapes.items s shape is_shape

    own : (k : ℕ) (m : ℕ × Member) → slice_get (members_of files c) k ≡ Some m → (i : Inherited) × (slice_get shape.members.items k ≡ Some i) × (◌≡◌ {A = ℕ × Member} (i.file, i.member.now) m)
    own k m at = mapped_from (λ (i : Inherited). (i.file, i.member.now)) shape.members.items k m (ap (λ l. slice_get l k) of_class.members ∙ at)

    has_member : (k : ℕ) (m : ℕ × Member) → slice_get (members_of files c) k ≡ Some m → HasMember scopes shape.class.number m
    has_member k m at = let i = own k m at in subst (HasMember scopes shape.class.number) i.2 (declared scopes (core shape) k i.0 (is.built s (core shape) is_core) i.1)

    module _ (k file : ℕ) (i : Instance) (d : Class) (at : slice_get (members_of files c) k ≡ Some (file, member.Instance i)) (means : class_named files file (string_bytes i.reactor.text) ≡ Some d) where
      number_is : instance_of scopes (file, member.Instance i) ≡ Some (number_at files d)
      number_is = names_law files scopes is.scopes_are file (string_bytes i.reactor.text) ∙ ap (option_map (number_at files)) means

      j : (j : Inherited) × (slice_get shape.members.items k ≡ Some j) × (◌≡◌ {A = ℕ × Member} (j.file, j.member.now) (file, member.Instance i))
      j = own k (file, member.Instance i) at

      noted : (t : ℕ) × (noted_inside (tables n.shapes.items) s k ≡ Some t)
      noted = is.all_noted s (core shape) is_core k (number_at files d) j.0 j.1 (ap (instance_of scopes) j.2 ∙ number_is)

      child : (child : Child) × (child_in (tables n.shapes.items) s k ≡ Some child) × (child.shape ≡ noted.0)
      child = option_map_some (λ (child : Child). child.shape) (child_in (tables n.shapes.items) s k) noted.0 noted.1

      there : IsChildInstance scopes (cores n.shapes.items) s k child.0
      there = is.inside_are s k child.0 child.1

      inner : (inner : Shape) × (slice_get n.shapes.items child.0.shape ≡ Some inner) × (core inner ≡ there.inner)
      inner = mapped_from core n.shapes.items child.0.shape there.inner there.is_inner

      same_outer : there.outer ≡ core shape
      same_outer = Some_same there.outer (core shape) (sym there.is_outer ∙ is_core)

      same_member : there.member ≡ j.0
      same_member = Some_same there.member j.0 (sym (ap (λ (o : Core). slice_get o.members k) (sym same_outer) ∙ there.is_member) ∙ j.1)

      its_number : number_at files d ≡ inner.0.class.number
      its_number = Some_same (number_at files d) inner.0.class.number (sym number_is ∙ ap (instance_of scopes) (sym j.2) ∙ ap (λ (x : Inherited). instance_of scopes (x.file, x.member.now)) (sym same_member) ∙ there.means ∙ ap (λ (o : Core). Some o.class.number) (sym inner.2))

      of_inner : IsShapeOf files inner.0 d
      of_inner = shape_is files scopes is.scopes_are inner.0 d (named_here files scopes is.scopes_are file (string_bytes i.reactor.text) d means) (sym its_number) (is.built child.0.shape (core inner.0) (mapped core n.shapes.items child.0.shape inner.0 inner.1))

      -- an instance with a width is a bank of that reactor
      bank_of : is_some i.width ≡ true → IsBankOf (cores n.shapes.items) (tables n.shapes.items) s k (core inner.0)
      bank_of some = record {
        outer = core shape;
        is_outer = is_core;
        entry = j.0;
        is_entry = j.1;
        instance = i;
        is_instance = ap (λ (p : ℕ × Member). p.1) j.2;
        is_bank = some;
        child = child.0;
        is_child = child.1;
        is_inner = mapped core n.shapes.items child.0.shape inner.0 inner.1;
      }

  -- what a reactor needs its shape's reactor needs
  pub needs_law : (need : Need) (c : Class) (q : List ℕ) → Needs files need c q → (s : ℕ) (shape : Shape) → slice_get n.shapes.items s ≡ Some shape → IsShapeOf files shape c → NeedsName scopes need shape.class.number q
  needs_law need _ _ (by_member {c} {q} k m at named) s shape is_shape of_class = name_by_member m (has_member s shape c is_shape of_class k m at) named
  needs_law need _ _ (by_instance {c} {d} {p} {q} k file i at means gives needs) s shape is_shape of_class =
      let inner_is = inner s shape c is_shape of_class k file i d at means in
      name_by_instance file i (has_member s shape c is_shape of_class k (file, member.Instance i) at) (number_is s shape c is_shape of_class k file i d at means) gives (subst (λ m. NeedsName scopes need m p) (sym (its_number s shape c is_shape of_class k file i d at means)) (needs_law need d p needs (child s shape c is_shape of_class k file i d at means).0.shape inner_is.0 inner_is.1 (of_inner s shape c is_shape of_class k file i d at means)))

  -- in a bank no `bank_index` is needed
  pub index_law : (s : ℕ) (shape : Shape) (x : Inside) (k file : ℕ) (i : Instance) (y : Inside) → Has n.order.items s → slice_get n.shapes.items s ≡ Some shape → IsShapeOf files shape x.class → slice_get (members_of files x.class) k ≡ Some (file, member.Instance i) → is_some i.width ≡ true → inside_of files x (file, i) ≡ Some y → IsIndexFree files y
  index_law s shape x k file i y has is_shape of_class at some is_y named need needs =
      let inner_is = inner s shape x.class is_shape of_class k file i c.0 at c.1 in
      let of_it = of_inner s shape x.class is_shape of_class k file i c.0 at c.1 in
      let p = parameter_named files inner_is.0 c.0 of_it (codes "bank_index") (subst (λ (z : Class). is_some (find (λ p. is_named (codes "bank_index") p.name) (parameters_of files z)) ≡ true) (sym (ap (λ (z : Inside). z.class) c.2)) named) in
      is.index_free s has k p.0 (core inner_is.0) need (bank_of s shape x.class is_shape of_class k file i c.0 at c.1 some) p.1 (needs_law need c.0 (codes "bank_index") (subst (λ (z : Class). Needs files need z (codes "bank_index")) (sym (ap (λ (z : Inside). z.class) c.2)) needs) (child s shape x.class is_shape of_class k file i c.0 at c.1).0.shape inner_is.0 inner_is.1 of_it)
    where
      made : Class → Inside
      made c = record { class = c; values = map (value_given_in files x i.given.items) (parameters_of files c) }

      c : (c : Class) × (class_named files file (string_bytes i.reactor.text) ≡ Some c) × (made c ≡ y)
      c = option_map_some made (class_named files file (string_bytes i.reactor.text)) y is_y
