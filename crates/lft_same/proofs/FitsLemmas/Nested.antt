-- The main setting fits the main instance, and what is inside fits what is inside.
use Rattle.std.proofs.Common.{◌≡◌, ℕ, ◌+◌, List, length, map, Option, Some, None, option_map, slice_get, refl, sym, ap, subst, ◌∙◌}
use Rattle.std.specs.Prelude.{string_bytes}
use Rattle.std.specs.{List.position, Option.option_and_then}
use Rattle.lft_lists.proofs.{Mapped.{mapped, mapped_from, option_map_some}, Places.Some_same}
use Rattle.lft_whole.specs.declared.{sources.source.SourceFile.SourceFile, tree.{Instance.Instance, Member.Member, Reactor.Reactor}}
use Rattle.lft_classes.specs.declared.{nesting.Nesting.Nesting, scopes.Class.Class as ScopesClass, shapes.{Child.Child, Inherited.Inherited, Shape.Shape}}
use Rattle.lft_classes.specs.inner.{Built.{AreGiven, Core, IsChildInstance, core, cores, instance_of}, Circles.GivesOnce, Nestings.IsNesting}
use Rattle.lft_classes.specs.inner.Scopes.{AreScopes, IsMain, reactors_in, reactors_before}
use Rattle.lft_classes.specs.inner.Shapes.{child_at, child_in, inside as noted_inside, tables, thing_named}
use Rattle.lft_classes.proofs.Numbering.{at_file}
use Rattle.lft_elaborate.specs.inner.Values.{Valued, inside, main_setting, setting_of, values_inside}
use Rattle.lft_program.proofs.Zipping.{then_some}
use Rattle.lft_same.specs.Expanded.Instances.{Inside, value_given_in, inside_of, main_class_instance}
use Rattle.lft_same.specs.Expanded.Reactors.{Class, class_named, main_of, members_of, parameters_of}
use Rattle.lft_same.specs.inner.Fits.Fits.{Fits, IsShapeOf, number_at}
use Rattle.lft_same.proofs.FitsLemmas.{ClassNames.{IsAt, names_law, own_place, position_found, position_lost}, Fitting.{inside_fits, main_fits}}
use Rattle.lft_same.proofs.FitsLemmas.{Giving.{IsGivenBy, given_by}, Shapes.{named_here, shape_is}}
use Rattle.lft_whole.specs.declared.tree.Member.TheVariants as member

abbrev pub in_first : ℕ → ℕ × ℕ
in_first k = (0, k)

-- the main reactor is the one that is run
pub main_is : (files : List SourceFile) (scopes : _) → AreScopes files scopes → (c : ScopesClass) → IsMain scopes c → (at : ℕ × ℕ) × (main_of files ≡ Some at) × IsAt files c at
main_is files scopes are c main = go (position (λ (r : Reactor). r.is_main) j.0.tree.reactors.items) refl
  where
    n : c.number ≡ main.number
    n = are.numbers main.number c main.is_there.is_known

    stands : slice_get (reactors_in files) main.number ≡ Some (c.file, c.reactor.now)
    stands = ap (λ l. slice_get l main.number) (sym are.reactors) ∙ mapped (λ (d : ScopesClass). (d.file, d.reactor.now)) scopes.classes.items main.number c main.is_there.is_known

    j : (f : SourceFile) × (slice_get files 0 ≡ Some f) × (k : ℕ) × (slice_get f.tree.reactors.items k ≡ Some c.reactor.now)
    j = own_place files 0 c (ap (slice_get (reactors_in files)) n ∙ stands) main.is_there.in_first_file

    go : (o : Option ℕ) → position (λ (r : Reactor). r.is_main) j.0.tree.reactors.items ≡ o → (at : ℕ × ℕ) × (main_of files ≡ Some at) × IsAt files c at
    go None e = absurd (position_lost (λ (r : Reactor). r.is_main) j.0.tree.reactors.items j.2 c.reactor.now j.3 main.is_there.is_main e)
    go (Some k) e =
        let r = position_found (λ (r : Reactor). r.is_main) j.0.tree.reactors.items k e in
        let number : ℕ = length (reactors_before files 0) + k in
        let at : slice_get (reactors_in files) number ≡ Some (0, r.0) = at_file files 0 j.0 k r.0 j.1 r.1 in
        let d = mapped_from (λ (d : ScopesClass). (d.file, d.reactor.now)) scopes.classes.items number (0, r.0) (ap (λ l. slice_get l number) are.reactors ∙ at) in
        let same : number ≡ main.number = main.alone number d.0 (record { is_known = d.1; in_first_file = ap (λ (p : ℕ × Reactor). p.0) d.2; is_main = ap (λ (p : ℕ × Reactor). p.1.is_main) d.2 ∙ r.2 }) in
        let one : Some (c.file, c.reactor.now) ≡ Some (0, r.0) = sym stands ∙ ap (slice_get (reactors_in files)) (sym same) ∙ at in
        let p = Some_same (c.file, c.reactor.now) (0, r.0) one in (
          in_first k,
          ap (option_and_then (λ (f : SourceFile). option_map in_first (position (λ (r : Reactor). r.is_main) f.tree.reactors.items))) j.1 ∙ ap (option_map in_first) e,
          record {
            file = ap (λ (q : ℕ × Reactor). q.0) p;
            reactor = ap (option_and_then (λ (f : SourceFile). slice_get f.tree.reactors.items k)) j.1 ∙ r.1 ∙ ap Some (sym (ap (λ (q : ℕ × Reactor). q.1) p));
            number = n ∙ sym same;
          },
        )

module _ (files : List SourceFile) (scopes : _) (n : Nesting) (is : IsNesting files scopes n) where
  -- the main setting fits the main instance
  pub main_law : (t : Valued) → main_setting n.shapes.items ≡ Some t → (c : Class) × (main_of files ≡ Some c) × Fits files n.shapes.items t (main_class_instance files c)
  main_law t set = (at.0, at.1, main_fits files n.shapes.items t shape.0 at.0 set shape.1 (shape_is files scopes is.scopes_are shape.0 at.0 (is.main.reactor.now, at.2.reactor) (ap (λ (c : Core). c.class.number) shape.2 ∙ ap (λ (c : ScopesClass). c.number) first.2 ∙ at.2.number) (is.built 0 (core shape.0) (mapped core n.shapes.items 0 shape.0 shape.1))))
    where
      at : (at : ℕ × ℕ) × (main_of files ≡ Some at) × IsAt files is.main at
      at = main_is files scopes is.scopes_are is.main is.main_is

      first : (c : Core) × (slice_get (cores n.shapes.items) 0 ≡ Some c) × (c.class ≡ is.main)
      first = option_map_some (λ (c : Core). c.class) (slice_get (cores n.shapes.items) 0) is.main is.is_first

      shape : (s : Shape) × (slice_get n.shapes.items 0 ≡ Some s) × (core s ≡ first.0)
      shape = mapped_from core n.shapes.items 0 first.0 first.1

  -- what stands of an instance: the shape in it, its reactor, and what is given to its parameters
  pub given_law : (t u : Valued) (x : Inside) (m file : ℕ) (i : Instance) (fits : Fits files n.shapes.items t x) → slice_get (members_of files x.class) m ≡ Some (file, member.Instance i) → inside n.shapes.items t m ≡ Some u → (child : Child) × (child_at fits.shape.children.items m ≡ Some child) × (inner : Shape) × (slice_get n.shapes.items child.shape ≡ Some inner) × (c : Class) × (class_named files file (string_bytes i.reactor.text) ≡ Some c) × IsShapeOf files inner c × IsGivenBy inner child i × GivesOnce i.given.items × AreGiven (thing_named inner) i.given.items child.given.items
  given_law t u x m file i fits at in_u = (child.0, child.1, inner.0, inner.1, c.0, c.1, of_inner, given, gives.0, gives.1)
    where
      outer : inside n.shapes.items t m ≡ option_and_then (setting_of n.shapes.items fits.shape t.values) (child_at fits.shape.children.items m)
      outer = ap (option_and_then (λ outer. option_and_then (setting_of n.shapes.items outer t.values) (child_at outer.children.items m))) fits.is_shape

      child : (child : Child) × (child_at fits.shape.children.items m ≡ Some child) × (setting_of n.shapes.items fits.shape t.values child ≡ Some u)
      child = then_some (setting_of n.shapes.items fits.shape t.values) (child_at fits.shape.children.items m) u (sym outer ∙ in_u)

      made : Shape → Valued
      made inner = record { shape = child.0.shape; values = values_inside fits.shape t.values child.0.given.items inner }

      inner : (s : Shape) × (slice_get n.shapes.items child.0.shape ≡ Some s) × (made s ≡ u)
      inner = option_map_some made (slice_get n.shapes.items child.0.shape) u child.2

      noted : IsChildInstance scopes (cores n.shapes.items) t.shape m child.0
      noted = is.inside_are t.shape m child.0 (ap (option_and_then (λ children. child_at children m)) (mapped (λ (s : Shape). s.children.items) n.shapes.items t.shape fits.shape fits.is_shape) ∙ child.1)

      same_outer : noted.outer ≡ core fits.shape
      same_outer = Some_same noted.outer (core fits.shape) (sym noted.is_outer ∙ mapped core n.shapes.items t.shape fits.shape fits.is_shape)

      same_inner : noted.inner ≡ core inner.0
      same_inner = Some_same noted.inner (core inner.0) (sym noted.is_inner ∙ mapped core n.shapes.items child.0.shape inner.0 inner.1)

      same_member : ◌≡◌ {A = ℕ × Member} (noted.member.file, noted.member.member.now) (file, member.Instance i)
      same_member = Some_same (noted.member.file, noted.member.member.now) (file, member.Instance i) (sym (mapped (λ (k : Inherited). (k.file, k.member.now)) fits.shape.members.items m noted.member (ap (λ (c : Core). slice_get c.members m) (sym same_outer) ∙ noted.is_member)) ∙ ap (λ l. slice_get l m) fits.of_class.members ∙ at)

      means : option_map (number_at files) (class_named files file (string_bytes i.reactor.text)) ≡ Some inner.0.class.number
      means = sym (names_law files scopes is.scopes_are file (string_bytes i.reactor.text)) ∙ sym (ap (instance_of scopes) same_member) ∙ noted.means ∙ ap (λ (c : Core). Some c.class.number) same_inner

      c : (c : Class) × (class_named files file (string_bytes i.reactor.text) ≡ Some c) × (number_at files c ≡ inner.0.class.number)
      c = option_map_some (number_at files) (class_named files file (string_bytes i.reactor.text)) inner.0.class.number means

      of_inner : IsShapeOf files inner.0 c.0
      of_inner = shape_is files scopes is.scopes_are inner.0 c.0 (named_here files scopes is.scopes_are file (string_bytes i.reactor.text) c.0 c.1) (sym c.2) (is.built child.0.shape (core inner.0) (mapped core n.shapes.items child.0.shape inner.0 inner.1))

      gives : GivesOnce i.given.items × AreGiven (thing_named inner.0) i.given.items child.0.given.items
      gives = subst (λ (k : Core). GivesOnce i.given.items × AreGiven k.things i.given.items child.0.given.items) same_inner (noted.gives i (ap (λ (p : ℕ × Member). p.1) same_member))

      given : IsGivenBy inner.0 child.0 i
      given = given_by files inner.0 c.0 of_inner child.0 i gives.0 gives.1

  -- what is inside fits what is inside
  pub inside_law : (t u : Valued) (x : Inside) (m file : ℕ) (i : Instance) → Fits files n.shapes.items t x → slice_get (members_of files x.class) m ≡ Some (file, member.Instance i) → inside n.shapes.items t m ≡ Some u → (y : Inside) × (inside_of files x (file, i) ≡ Some y) × Fits files n.shapes.items u y
  inside_law t u x m file i fits at in_u =
      let (child, is_child, inner, is_inner, c, means, of_inner, given, once, are) = given_law t u x m file i fits at in_u in
      inside_fits files n.shapes.items t u x fits m child inner file i c in_u is_child is_inner means of_inner given

  -- what is noted in a member, which is an instance
  child_inside : (t u : Valued) (shape : Shape) (m : ℕ) → slice_get n.shapes.items t.shape ≡ Some shape → inside n.shapes.items t m ≡ Some u → (child : Child) × (child_at shape.children.items m ≡ Some child) × IsChildInstance scopes (cores n.shapes.items) t.shape m child
  child_inside t u shape m is_shape in_u =
      let e : option_and_then (setting_of n.shapes.items shape t.values) (child_at shape.children.items m) ≡ Some u = sym (ap (option_and_then (λ outer. option_and_then (setting_of n.shapes.items outer t.values) (child_at outer.children.items m))) is_shape) ∙ in_u in
      let c = then_some (setting_of n.shapes.items shape t.values) (child_at shape.children.items m) u e in
      (c.0, c.1, is.inside_are t.shape m c.0 (ap (option_and_then (λ children. child_at children m)) (mapped (λ (s : Shape). s.children.items) n.shapes.items t.shape shape is_shape) ∙ c.1))

  noted_member : (t : Valued) (x : Inside) (fits : Fits files n.shapes.items t x) (m : ℕ) (child : Child) (noted : IsChildInstance scopes (cores n.shapes.items) t.shape m child) → slice_get (members_of files x.class) m ≡ Some (noted.member.file, noted.member.member.now)
  noted_member t x fits m child noted =
      let same = Some_same noted.outer (core fits.shape) (sym noted.is_outer ∙ mapped core n.shapes.items t.shape fits.shape fits.is_shape) in
      ap (λ l. slice_get l m) (sym fits.of_class.members) ∙ mapped (λ (k : Inherited). (k.file, k.member.now)) fits.shape.members.items m noted.member (ap (λ (c : Core). slice_get c.members m) (sym same) ∙ noted.is_member)

  pub instance_law : (t u : Valued) (x : Inside) (m : ℕ) → Fits files n.shapes.items t x → inside n.shapes.items t m ≡ Some u → (file : ℕ) × (i : Instance) × (slice_get (members_of files x.class) m ≡ Some (file, member.Instance i))
  instance_law t u x m fits in_u = of noted.member.member.now noted.means (noted_member t x fits m child.0 noted)
    where
      child : (child : Child) × (child_at fits.shape.children.items m ≡ Some child) × IsChildInstance scopes (cores n.shapes.items) t.shape m child
      child = child_inside t u fits.shape m fits.is_shape in_u

      noted : IsChildInstance scopes (cores n.shapes.items) t.shape m child.0
      noted = child.2

      of : (y : Member) → instance_of scopes (noted.member.file, y) ≡ Some noted.inner.class.number → slice_get (members_of files x.class) m ≡ Some (noted.member.file, y) → (file : ℕ) × (i : Instance) × (slice_get (members_of files x.class) m ≡ Some (file, member.Instance i))
      of (member.Instance i) means at = (noted.member.file, i, at)
      of (member.Port p) means at = absurd (cc)
      of (member.Timer p) means at = absurd (cc)
      of (member.Action p) means at = absurd (cc)
      of (member.Reaction p) means at = absurd (cc)
      of (member.Connection p) means at = absurd (cc)
      of (member.Foreign what p) means at = absurd (cc)

  -- in each instance there is a setting
  pub exists_law : (t : Valued) (x y : Inside) (m file : ℕ) (i : Instance) → Fits files n.shapes.items t x → slice_get (members_of files x.class) m ≡ Some (file, member.Instance i) → inside_of files x (file, i) ≡ Some y → (u : Valued) × (inside n.shapes.items t m ≡ Some u)
  exists_law t x y m file i fits at is_y =
      (made inner.0, ap (option_and_then (λ outer. option_and_then (setting_of n.shapes.items outer t.values) (child_at outer.children.items m))) fits.is_shape ∙ ap (option_and_then (setting_of n.shapes.items fits.shape t.values)) is_child ∙ ap (option_map made) inner.1)
    where
      own : (k : Inherited) × (slice_get fits.shape.members.items m ≡ Some k) × (◌≡◌ {A = ℕ × Member} (k.file, k.member.now) (file, member.Instance i))
      own = mapped_from (λ (k : Inherited). (k.file, k.member.now)) fits.shape.members.items m (file, member.Instance i) (ap (λ l. slice_get l m) fits.of_class.members ∙ at)

      of_class : Class → Inside
      of_class c = record { class = c; values = map (value_given_in files x i.given.items) (parameters_of files c) }

      c : (c : Class) × (class_named files file (string_bytes i.reactor.text) ≡ Some c) × (of_class c ≡ y)
      c = option_map_some of_class (class_named files file (string_bytes i.reactor.text)) y is_y

      means : instance_of scopes (own.0.file, own.0.member.now) ≡ Some (number_at files c.0)
      means = ap (instance_of scopes) own.2 ∙ names_law files scopes is.scopes_are file (string_bytes i.reactor.text) ∙ ap (option_map (number_at files)) c.1

      noted : (s : ℕ) × (noted_inside (tables n.shapes.items) t.shape m ≡ Some s)
      noted = is.all_noted t.shape (core fits.shape) (mapped core n.shapes.items t.shape fits.shape fits.is_shape) m (number_at files c.0) own.0 own.1 means

      child : (child : Child) × (child_in (tables n.shapes.items) t.shape m ≡ Some child) × (child.shape ≡ noted.0)
      child = option_map_some (λ (child : Child). child.shape) (child_in (tables n.shapes.items) t.shape m) noted.0 noted.1

      is_child : child_at fits.shape.children.items m ≡ Some child.0
      is_child = sym (ap (option_and_then (λ children. child_at children m)) (mapped (λ (s : Shape). s.children.items) n.shapes.items t.shape fits.shape fits.is_shape)) ∙ child.1

      there : IsChildInstance scopes (cores n.shapes.items) t.shape m child.0
      there = is.inside_are t.shape m child.0 child.1

      made : Shape → Valued
      made inner = record { shape = child.0.shape; values = values_inside fits.shape t.values child.0.given.items inner }

      inner : (s : Shape) × (slice_get n.shapes.items child.0.shape ≡ Some s) × (core s ≡ there.inner)
      inner = mapped_from core n.shapes.items child.0.shape there.inner there.is_inner
