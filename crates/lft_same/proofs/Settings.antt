-- The settings that instances have, the numbers of their members, and the settings inside.
use Rattle.std.proofs.Common.{◌≡◌, ℕ, zero, suc, ◌<◌, inl, inr, true, false, List, [], ◌∷◌, map, Option, Some, None, option_map, slice_get, refl, sym, ap, subst, ◌∙◌, arith}
use Rattle.std.specs.Prelude.{is_some, slice_index_or, string_bytes, unwrap_or}
use Rattle.std.specs.Option.{option_and_then}
use Rattle.lft_lists.proofs.{Mapped.mapped_from, Places.{Some_same, get_push_cases, same_some}}
use Rattle.lft_program.proofs.Zipping.{then_some}
use Rattle.lft_tree.specs.{Tree.{ItemTree, MemberTree, ReactorTree}, ItemView.item_views, declared.ast.Ast.Ast}
use Rattle.lft_resolve.specs.Instances.{Inside as CoreInside}
use Rattle.lft_whole.specs.declared.{sources.source.SourceFile.SourceFile, tree.{Instance.Instance, Member.Member, Width.Width}}
use Rattle.lft_elaborate.specs.{Channels.Channels.below, declared.settings.{Setting.Setting, Settings.Settings}}
use Rattle.lft_elaborate.specs.inner.{Noted.{found_inside, noted_for}, Places.{IsMany, IsWidth, many, width_in, written_width}}
use Rattle.lft_elaborate.specs.inner.{Settings.{setting_at, shape_at, valued}, Used.{IsReached, is_instance, is_instance_in, within}, Values.{Valued, inside}}
use Rattle.lft_elaborate.specs.inner.Widths.{found_width}
use Rattle.lft_elaborate.proofs.Keeping.{found_is_inside}
use Rattle.lft_classes.specs.{declared.shapes.{Inherited.Inherited, Shape.Shape}, Shapes.width_of, inner.Walks.Has}
use Rattle.lft_lower.specs.inner.{Meanings.Meanings.Here, Lowered.{AreInstances, IsLowered, no_instances, some_instances}}
use Rattle.lft_lower.specs.inner.Reactors.{AreReactors, IsLowering, IsReactor, more_reactors, no_reactors}
use Rattle.lft_same.specs.{Expanded.{Instances.{Inside, Widths, inside_of, numbers}, Reactors.members_of}, inner.Fits.Fits.{Fits, IsShapeOf}}
use Rattle.lft_same.proofs.FitsLemmas.{Nested.{exists_law, inside_law, instance_law}, Widths.{AreNested, width_is_written}}
use Rattle.lft_same.proofs.{Instances.{AreWidthsFound, StandsFor}, Lowered.{Becomes, made_at as member_made}}
use Rattle.lft_same.proofs.Found.{found_is_width, shape_of_setting, width_written}
use Rattle.lft_whole.specs.declared.tree.Member.TheVariants as member

-- the core reactor of a setting among those of all
reactor_among : (s : Settings) (names : List (Option (List ℕ))) (used : List ℕ) (items : List ItemTree) → AreReactors s names used items → (i k : ℕ) → slice_get used i ≡ Some k → (shape : Shape) × (r : ReactorTree) × (shape_at s k ≡ Some shape) × IsReactor s names k shape r
reactor_among s names _ _ no_reactors i k at = absurd (cc)
reactor_among s names _ _ (more_reactors front setting shape items r before is_shape is) i k at = elim (get_push_cases front setting i k at) [
  | inl a ↦ reactor_among s names front items before i k a
  | inr a ↦ (shape, r, subst (λ n. shape_at s n ≡ Some shape) a.1 is_shape, subst (λ n. IsReactor s names n shape r) a.1 is)
]

-- ---- settings and instances

-- a setting that instances have fits the instance
pub record HasSetting (files : List SourceFile) (tree : Ast) (low : IsLowering files tree) (x : Inside) : Type 0 where
  pub number : ℕ
  pub used : Has low.used number
  pub setting : Valued
  pub is_setting : setting_at low.settings number ≡ Some setting
  pub shape : Shape
  pub is_shape : shape_at low.settings number ≡ Some shape
  pub fits : Fits files low.settings.shapes.items setting x

-- so it is of a core instance
abbrev pub its_setting : (files : List SourceFile) (tree : Ast) (low : IsLowering files tree) (x : Inside) (core : CoreInside) → StandsFor files tree low x core → HasSetting files tree low x
its_setting files tree low x core s = record { number = s.number; used = s.used; setting = s.setting; is_setting = s.is_setting; shape = s.shape; is_shape = s.is_shape; fits = s.fits }

map_some_same : {X : Type 0} (xs ys : List X) → map Some xs ≡ map Some ys → xs ≡ ys
map_some_same [] [] e = refl
map_some_same [] (y ∷ ys) e = absurd (cc)
map_some_same (x ∷ xs) [] e = absurd (cc)
map_some_same (x ∷ xs) (y ∷ ys) e =
    let a : Some x ≡ Some y = cc in
    let b : map Some xs ≡ map Some ys = cc in
    let c : xs ≡ ys = map_some_same xs ys b in
    let d : x ≡ y = cc in cc

module _ (files : List SourceFile) (tree : Ast) (low : IsLowering files tree) where
  -- what is inside the one is inside the other
  pub nested : AreNested files low.settings.shapes.items
  nested =
      let (scopes, nesting, is, same) = low.program.shapes in
      subst (AreNested files) same (record { instance = instance_law files scopes nesting is; exists = exists_law files scopes nesting is; inside_fits = inside_law files scopes nesting is })

  -- the setting of a number
  made_at : (k : ℕ) (t : Valued) → setting_at low.settings k ≡ Some t → (z : Setting) × (slice_get low.settings.settings.items k ≡ Some z) × (valued z ≡ t)
  made_at k t at = mapped_from valued low.settings.settings.items k t at

  -- one setting has one number
  one_number : (j k : ℕ) (t : Valued) → setting_at low.settings j ≡ Some t → setting_at low.settings k ≡ Some t → j ≡ k
  one_number j k t at_j at_k =
      let x = made_at j t at_j in
      let y = made_at k t at_k in
      let same : valued x.0 ≡ valued y.0 = x.2 ∙ sym y.2 in
      let shape : x.0.shape ≡ y.0.shape = ap (λ (v : Valued). v.shape) same in
      let values : x.0.values.items ≡ y.0.values.items = map_some_same x.0.values.items y.0.values.items (ap (λ (v : Valued). v.values) same) in
      let known : noted_for low.settings.known.items x.0.shape x.0.values.items ≡ noted_for low.settings.known.items y.0.shape y.0.values.items = ap (λ n. noted_for low.settings.known.items n x.0.values.items) shape ∙ ap (noted_for low.settings.known.items y.0.shape) values in
      Some_same j k (sym (low.program.settings.made.once j x.0 x.1) ∙ known ∙ low.program.settings.made.once k y.0 y.1)

  module _ (x : Inside) (s : HasSetting files tree low x) where
    -- where its references are looked up
    abbrev pub here : Here
    here = record { settings = low.settings; setting = s.number; shape = s.shape }

    made : (z : Setting) × (slice_get low.settings.settings.items s.number ≡ Some z) × (valued z ≡ s.setting)
    made = made_at s.number s.setting s.is_setting

    pub shape_there : slice_get low.settings.shapes.items s.setting.shape ≡ Some s.shape
    shape_there = shape_of_setting low.settings s.number s.setting s.shape s.is_setting s.is_shape

    pub same_shape : s.fits.shape ≡ s.shape
    same_shape = same_some (slice_get low.settings.shapes.items s.setting.shape) s.fits.shape s.shape s.fits.is_shape shape_there

    -- its shape is of the instance's reactor
    pub of_class : IsShapeOf files s.shape x.class
    of_class = subst (λ z. IsShapeOf files z x.class) same_shape s.fits.of_class

    -- its core reactor
    core : (r : ReactorTree) × IsReactor low.settings low.names s.number s.shape r
    core =
        let a = reactor_among low.settings low.names low.used (item_views tree.items.items) low.reactors s.used.0 s.number s.used.1 in
        (a.1, subst (λ (z : Shape). IsReactor low.settings low.names s.number z a.1) (Some_same a.0 s.shape (sym a.2 ∙ s.is_shape)) a.3)

    -- what each of its members becomes
    becomes : (n : ℕ) (m : Inherited) → slice_get s.shape.members.items n ≡ Some m → (new : List MemberTree) × Becomes low.names here core.0.members core.1.members.0 n m new
    becomes = member_made low.names here core.0.members core.1.members.0 core.1.members.1

    -- a member of the reactor is one of the shape
    pub member_of : (n file : ℕ) (y : Member) → slice_get (members_of files x.class) n ≡ Some (file, y) → (m : Inherited) × (slice_get s.shape.members.items n ≡ Some m) × (m.member.now ≡ y)
    member_of n file y at =
        let m = mapped_from (λ (m : Inherited). (m.file, m.member.now)) s.shape.members.items n (file, y) (ap (λ l. slice_get l n) of_class.members ∙ at) in
        (m.0, m.1, ap (λ (p : ℕ × Member). p.1) m.2)

    -- the width that is written at a member
    written_at : (n : ℕ) (m : Inherited) → slice_get s.shape.members.items n ≡ Some m → written_width low.settings.shapes.items s.setting n ≡ width_of m.member.now
    written_at n m at = width_is_written files low.settings.shapes.items s.setting x s.fits n m (ap (λ (z : Shape). slice_get z.members.items n) same_shape ∙ at)

    -- a width that was found is the sum of its terms
    found_is : (n c : ℕ) → found_width low.settings s.number n ≡ Some c → IsWidth low.settings.shapes.items s.setting n c
    found_is n c e = found_is_width low.settings low.program.settings s.number n c s.setting s.is_setting e

    -- so it is written
    pub unwritten : (n c : ℕ) (m : Inherited) → slice_get s.shape.members.items n ≡ Some m → width_of m.member.now ≡ None → found_width low.settings s.number n ≡ Some c → ⊥
    unwritten n c m at narrow e = let v = width_written low.settings.shapes.items s.setting n c (found_is n c e) in let f : Some v.0 ≡ None = sym v.1 ∙ written_at n m at ∙ narrow in cc

    module _ (w : Widths) (found : AreWidthsFound files tree low w) where
      -- the numbers of a member are those that lowering found
      pub numbers_are : (n : ℕ) (m : Inherited) → slice_get s.shape.members.items n ≡ Some m → numbers (width_of m.member.now) (w x n) ≡ map (λ k. option_map (λ _. k) (found_width low.settings s.number n)) (below (unwrap_or (found_width low.settings s.number n) 1))
      numbers_are n m at = go (width_of m.member.now) (found_width low.settings s.number n) refl refl (becomes n m at).1.measured
        where
          go : (o : Option Width) (f : Option ℕ) → width_of m.member.now ≡ o → found_width low.settings s.number n ≡ f → (is_some (width_of m.member.now) ≡ true → is_some (found_width low.settings s.number n) ≡ true) → numbers o (w x n) ≡ map (λ k. option_map (λ _. k) f) (below (unwrap_or f 1))
          go None None wide is measured = refl
          go None (Some c) wide is measured = absurd (unwritten n c m at wide is)
          go (Some v) None wide is measured = absurd (let e : is_some (found_width low.settings s.number n) ≡ true = measured (ap is_some wide) in let f : false ≡ true = sym (ap is_some is) ∙ e in cc)
          go (Some v) (Some c) wide is measured = ap (λ k. map Some (below k)) (found s.number s.setting x n c s.used s.is_setting s.fits is)

    -- ---- inside

    -- the setting that was found in a member is that of what is inside
    inside_found : (n k : ℕ) (u : Valued) → found_inside low.settings s.number n ≡ Some k → inside low.settings.shapes.items s.setting n ≡ Some u → setting_at low.settings k ≡ Some u
    inside_found n k u e in_u = let v = found_is_inside low.settings s.number n k s.setting low.program.settings.made e s.is_setting in v.2 ∙ ap Some (Some_same v.0 u (sym v.1 ∙ in_u))

    pub reached : IsReached low.settings.shapes.items s.setting
    reached =
        let r = low.program.are_used.reached s.number s.used in
        subst (IsReached low.settings.shapes.items) (Some_same r.0 s.setting (sym r.1 ∙ s.is_setting)) r.2

    -- an instance that has members is so many
    is_many : (n c : ℕ) (m : Inherited) → slice_get s.shape.members.items n ≡ Some m → unwrap_or (found_width low.settings s.number n) 1 ≡ suc c → (count : ℕ) × IsMany low.settings.shapes.items s.setting n count × (0 < count)
    is_many n c m at e = go (width_of m.member.now) (found_width low.settings s.number n) refl refl (becomes n m at).1.measured e
      where
        go : (o : Option Width) (f : Option ℕ) → width_of m.member.now ≡ o → found_width low.settings s.number n ≡ f → (is_some (width_of m.member.now) ≡ true → is_some (found_width low.settings s.number n) ≡ true) → unwrap_or f 1 ≡ suc c → (count : ℕ) × IsMany low.settings.shapes.items s.setting n count × (0 < count)
        go None f wide is measured l = (1, (0, ap (many (width_in low.settings.shapes.items 0 s.setting n)) (written_at n m at ∙ wide)), omega arith)
        go (Some v) None wide is measured l = absurd (let e : is_some (found_width low.settings s.number n) ≡ true = measured (ap is_some wide) in let f : false ≡ true = sym (ap is_some is) ∙ e in cc)
        go (Some v) (Some k) wide is measured l =
            let d = found_is n k is in
            (k, (d.0, ap (many (width_in low.settings.shapes.items d.0 s.setting n)) (written_at n m at ∙ wide) ∙ d.1), omega (arith, l))

    -- the instance is of the setting that was found in the member
    pub record IsFoundIn (n : ℕ) (y : Inside) : Type 0 where
      pub setting : HasSetting files tree low y
      pub is_number : found_inside low.settings s.number n ≡ Some setting.number
      pub is_inside : inside low.settings.shapes.items s.setting n ≡ Some setting.setting

    -- what is in an instance that has members is of the setting that was found in it
    pub found_in : (n file c : ℕ) (i : Instance) (y : Inside) → slice_get (members_of files x.class) n ≡ Some (file, member.Instance i) → inside_of files x (file, i) ≡ Some y → unwrap_or (found_width low.settings s.number n) 1 ≡ suc c → IsFoundIn n y
    found_in n file c i y at is_y some = record {
      setting = record { number = number.0; used = used; setting = u.0; is_setting = is_u; shape = inner.shape; is_shape = there; fits = inner };
      is_number = number.1;
      is_inside = u.1;
    }
      where
        u : (u : Valued) × (inside low.settings.shapes.items s.setting n ≡ Some u)
        u = nested.exists s.setting x y n file i s.fits at is_y

        inner : Fits files low.settings.shapes.items u.0 y
        inner =
            let f = nested.inside_fits s.setting u.0 x n file i s.fits at u.1 in
            subst (Fits files low.settings.shapes.items u.0) (Some_same f.0 y (sym f.1 ∙ is_y)) f.2

        own : (m : Inherited) × (slice_get s.shape.members.items n ≡ Some m) × (m.member.now ≡ member.Instance i)
        own = member_of n file (member.Instance i) at

        number : (k : ℕ) × (found_inside low.settings s.number n ≡ Some k)
        number = of own.0.member.now own.2 (becomes n own.0 own.1).1.before (becomes n own.0 own.1).0 (becomes n own.0 own.1).1.after (becomes n own.0 own.1).1.lowered
          where
            by : (new : List MemberTree) → AreInstances low.names here n (string_bytes i.name.text) new → (k : ℕ) × (found_inside low.settings s.number n ≡ Some k)
            by _ (no_instances none) = absurd (let e : zero ≡ suc c = sym none ∙ some in cc)
            by _ (some_instances reactor given is_reactor are) = let k = then_some (λ inner. slice_index_or low.names inner None) (found_inside low.settings s.number n) reactor is_reactor in (k.0, k.1)

            of : (z : Member) → z ≡ member.Instance i → (before : Option (List ℕ)) (new : List MemberTree) (after : Option (List ℕ)) → IsLowered low.names here n before new after z → (k : ℕ) × (found_inside low.settings s.number n ≡ Some k)
            of z e before new after l = by new (subst (IsLowered low.names here n before new after) e l).1

        is_u : setting_at low.settings number.0 ≡ Some u.0
        is_u = inside_found n number.0 u.0 number.1 u.1

        is_inst : is_instance_in low.settings.shapes.items s.setting n ≡ true
        is_inst =
            ap (λ o. unwrap_or (option_map (λ (m : Inherited). is_instance m.member.now) (option_and_then (λ (z : Shape). slice_get z.members.items n) o)) false) shape_there
            ∙ ap (λ o. unwrap_or (option_map (λ (m : Inherited). is_instance m.member.now) o) false) own.1
            ∙ ap is_instance own.2

        used : Has low.used number.0
        used =
            let many = is_many n c own.0 own.1 some in
            let k = low.program.are_used.all u.0 (within n reached (record { instance = is_inst; is_inside = u.1; count = many.0; many = many.1; some = many.2 })) in
            subst (Has low.used) (one_number k.0 number.0 u.0 k.2 is_u) k.1

        there : shape_at low.settings number.0 ≡ Some inner.shape
        there =
            let z = made_at number.0 u.0 is_u in
            ap (option_and_then (λ (z : Setting). slice_get low.settings.shapes.items z.shape)) z.1 ∙ ap (λ (v : Valued). slice_get low.settings.shapes.items v.shape) z.2 ∙ inner.is_shape
