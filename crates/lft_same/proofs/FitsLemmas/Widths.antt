-- Widths that are found are those of the instances.
use Rattle.std.proofs.Common.{◌≡◌, ℕ, zero, suc, ◌+◌, ◌*◌, ◌<◌, ◌≤◌, min, ℤ, pos, Bool, true, false, List, [], ◌∷◌, length, map, Option, Some, None, option_map, slice_get, refl, sym, ap, subst, ◌∙◌, arith}
use Rattle.std.specs.Prelude.{◌^◌, neg_ℤ, string_bytes, unwrap_or}
use Rattle.std.{specs.{Option.{option_and_then, option_map_or}, List.enumerate_from}, proofs.lemmas.List.{length-map, FromFn.length-range_with_len}}
use Rattle.lft_resolve.{specs.Expansion.Paths.along, proofs.Flat.enumerated}
use Rattle.lft_lists.proofs.{Mapped.{mapped, mapped_from, option_map_some}, Members.{Mem, get_mem, mem_from_flat, mem_from_map, mem_get}, Places.Some_same}
use Rattle.lft_program.proofs.Zipping.{then_some}
use Rattle.lft_whole.specs.declared.sources.source.SourceFile.{SourceFile}
use Rattle.lft_whole.specs.declared.tree.{Count.Count, Instance.Instance, Member.Member, Name.Name, Reference.Reference, Term.Term, WrittenValue.WrittenValue}
use Rattle.lft_whole.specs.declared.tree.Width.{Width}
use Rattle.lft_elaborate.specs.Channels.Channels.{below}
use Rattle.lft_elaborate.specs.inner.Used.{IsReached, is_instance, is_instance_in, within}
use Rattle.lft_elaborate.specs.inner.Places.{IsMany, capped, known_count as settings_count, how_many, how_many_inside, how_many_of, many, member_in, parameter_in, how_many_places, how_many_meant, plus, sum_in, capped_product, width_in, written_width}
use Rattle.lft_elaborate.specs.inner.{Meanings.{meaning_named, meaning_of}, Values.{Valued, inside, literal, number_named}}
use Rattle.lft_elaborate.specs.{Places.natural, declared.meanings.Meaning.Meaning}
use Rattle.lft_classes.specs.{declared.shapes.{Inherited.Inherited, Shape.Shape, OwnThing.OwnThing}, Shapes.{name_of, width_of}, inner.Shapes.thing_named}
use Rattle.lft_same.specs.Expanded.Instances.{Inner, Inside, Widths, entered_instance, inners, inners_at, inside_of, main_class_instance, number_of, numbers, numbers_at, numbers_named, place_named, name_with_number}
use Rattle.lft_same.specs.Expanded.{Reactors.{Class, main_of, members_of}, Whole.{AreWidths, channels, term_of_width, things_named, total_width}}
use Rattle.lft_same.specs.Expanded.Taken.{widths_from}
use Rattle.lft_same.specs.inner.Fits.{Fits.Fits, Widths.{AreFound, small}}
use Rattle.lft_same.proofs.FitsLemmas.{Channels.channels_length, Fitting.number_fits, MemberNames.{member_found, member_lost}}
use Rattle.lft_same.proofs.FitsLemmas.Ports.{IsPort, port_is, shape_is_inside}
use Rattle.lft_elaborate.specs.declared.meanings.Meaning.TheVariants as meaning
use Rattle.lft_whole.specs.declared.tree.Count.TheVariants as count
use Rattle.lft_whole.specs.declared.tree.Member.TheVariants as member
use Rattle.lft_whole.specs.declared.tree.WrittenValue.TheVariants as value
use Rattle.lft_classes.specs.declared.shapes.OwnThing.TheVariants as thing

-- ---- small numbers

uncapped : (n : ℕ) → capped n < small → capped n ≡ n
uncapped n l = omega (arith, l)

uncut : (c : ℕ) → min c (2 ^ 62) < small → min c (2 ^ 62) ≡ c
uncut c l = omega (arith, l)

-- a number that is written is that of the value
pub number_is : (v : WrittenValue) (z : ℤ) (k : ℕ) → literal v ≡ Some z → natural z ≡ Some k → k < small → option_and_then natural (number_of v) ≡ Some k
number_is (value.Number true c None) z k e f l = below_zero c (min c (2 ^ 62)) refl (ap natural (Some_same (neg_ℤ (pos (min c (2 ^ 62)))) z e) ∙ f)
  where
    below_zero : (c m : ℕ) → m ≡ min c (2 ^ 62) → natural (neg_ℤ (pos m)) ≡ Some k → natural (neg_ℤ (pos c)) ≡ Some k
    below_zero zero m is g = let z : m ≡ 0 = omega (arith, is) in ap (λ n. natural (neg_ℤ (pos n))) (sym z) ∙ g
    below_zero (suc c) zero is g = absurd (omega (arith, is))
    below_zero (suc c) (suc m) is g = absurd (cc)
number_is (value.Number false c None) z k e f l =
    let g : Some (min c (2 ^ 62)) ≡ Some k = ap natural (Some_same (pos (min c (2 ^ 62))) z e) ∙ f in
    let h : min c (2 ^ 62) ≡ k = Some_same (min c (2 ^ 62)) k g in
    ap Some (sym (uncut c (omega (arith, h, l))) ∙ h)
number_is (value.Number negative c (Some unit)) z k e f l = absurd (none negative e)
  where
    none : (b : Bool) → literal (value.Number b c (Some unit)) ≡ Some z → ⊥
    none true g = cc
    none false g = cc
number_is (value.Word q) z k e f l = absurd (cc)
number_is value.Code z k e f l = absurd (cc)
number_is value.Other z k e f l = absurd (cc)

times_some : (a b : Option ℕ) (n : ℕ) → capped_product a b ≡ Some n → (i : ℕ) × (j : ℕ) × (a ≡ Some i) × (b ≡ Some j) × (capped (i * j) ≡ n)
times_some None b n e = absurd (cc)
times_some (Some i) None n e = absurd (cc)
times_some (Some i) (Some j) n e = (i, j, refl, refl, Some_same (capped (i * j)) n e)

plus_some : (a b : Option ℕ) (n : ℕ) → plus a b ≡ Some n → (i : ℕ) × (j : ℕ) × (a ≡ Some i) × (b ≡ Some j) × (capped (i + j) ≡ n)
plus_some None b n e = absurd (cc)
plus_some (Some i) None n e = absurd (cc)
plus_some (Some i) (Some j) n e = (i, j, refl, refl, Some_same (capped (i + j)) n e)

-- so many for each of so many
product : (i j n a b : ℕ) → capped (i * j) ≡ n → n < small → (i < small → a ≡ i) → (j < small → b ≡ j) → b * a ≡ n
product zero j n a b e l f g =
    let h : a ≡ 0 = f (omega arith) in
    let z : b * a ≡ 0 = ap (λ k. b * k) h ∙ omega arith in
    let t : 0 * j ≡ 0 = omega arith in
    z ∙ ap capped (sym t) ∙ e
product (suc i) zero n a b e l f g =
    let h : b ≡ 0 = g (omega arith) in
    let z : b * a ≡ 0 = ap (λ k. k * a) h ∙ omega arith in
    let t : suc i * 0 ≡ 0 = omega arith in
    z ∙ ap capped (sym t) ∙ e
product (suc i) (suc j) n a b e l f g =
    let u : capped (suc i * suc j) ≡ suc i * suc j = uncapped (suc i * suc j) (omega (arith, e, l)) in
    let p : suc i * suc j ≡ n = sym u ∙ e in
    let x : suc i ≤ suc i * suc j = more i j in
    let y : suc j ≤ suc i * suc j = more' i j in
    let h : a ≡ suc i = f (omega (arith, x, p, l)) in
    let k : b ≡ suc j = g (omega (arith, y, p, l)) in
    ap (λ v. b * v) h ∙ ap (λ v. v * suc i) k ∙ turn i j ∙ p
  where
    more : (i j : ℕ) → suc i ≤ suc i * suc j
    more i j = grind arith

    more' : (i j : ℕ) → suc j ≤ suc i * suc j
    more' i j = grind arith

    turn : (i j : ℕ) → suc j * suc i ≡ suc i * suc j
    turn i j = grind arith

-- ---- widths that hang on those that are known

-- a setting and an instance that it fits have the same in the same members
pub record AreNested (files : List SourceFile) (shapes : List Shape) : Type 0 where
  pub instance : (t u : Valued) (x : Inside) (m : ℕ) → Fits files shapes t x → inside shapes t m ≡ Some u → (file : ℕ) × (i : Instance) × (slice_get (members_of files x.class) m ≡ Some (file, member.Instance i))
  pub exists : (t : Valued) (x y : Inside) (m file : ℕ) (i : Instance) → Fits files shapes t x → slice_get (members_of files x.class) m ≡ Some (file, member.Instance i) → inside_of files x (file, i) ≡ Some y → (u : Valued) × (inside shapes t m ≡ Some u)
  pub inside_fits : (t u : Valued) (x : Inside) (m file : ℕ) (i : Instance) → Fits files shapes t x → slice_get (members_of files x.class) m ≡ Some (file, member.Instance i) → inside shapes t m ≡ Some u → (y : Inside) × (inside_of files x (file, i) ≡ Some y) × Fits files shapes u y

module _ (files : List SourceFile) (shapes : List Shape) (t : Valued) (x : Inside) (fits : Fits files shapes t x) where
  -- a member of the setting's shape is one of the instance's reactor
  pub member_is : (m : ℕ) (i : Inherited) → slice_get fits.shape.members.items m ≡ Some i → slice_get (members_of files x.class) m ≡ Some (i.file, i.member.now)
  member_is m i at = ap (λ l. slice_get l m) (sym fits.of_class.members) ∙ mapped (λ (i : Inherited). (i.file, i.member.now)) fits.shape.members.items m i at

  pub width_is_written : (m : ℕ) (i : Inherited) → slice_get fits.shape.members.items m ≡ Some i → written_width shapes t m ≡ width_of i.member.now
  width_is_written m i at = ap (λ o. option_and_then (λ (found : Inherited). width_of found.member.now) (option_and_then (λ (s : Shape). slice_get s.members.items m) o)) fits.is_shape ∙ ap (option_and_then (λ (found : Inherited). width_of found.member.now)) at

  -- what has a name that is a member's
  pub named_member : (q : List ℕ) (m : ℕ) → thing_named fits.shape q ≡ Some (thing.Member m) → (i : Inherited) × (slice_get fits.shape.members.items m ≡ Some i)
  named_member q m e = let h = (fits.of_class.names q (thing.Member m)).0 e in (h.0, h.1)

module _ (files : List SourceFile) (shapes : List Shape) (nested : AreNested files shapes) (depth : ℕ) (w : Widths) (known : (t : Valued) (x : Inside) → Fits files shapes t x → (m n : ℕ) → width_in shapes depth t m ≡ Some n → n < small → w x m ≡ n) where
  -- as many as a member is
  numbers_long : (t : Valued) (x : Inside) → Fits files shapes t x → (m n : ℕ) (o : Option Width) → many (width_in shapes depth t m) o ≡ Some n → n < small → length (numbers o (w x m)) ≡ n
  numbers_long t x fits m n None e l = Some_same 1 n e
  numbers_long t x fits m n (Some width) e l = length-map (below (w x m)) Some ∙ length-range_with_len 0 (w x m) ∙ known t x fits m n e l

  member_long : (t : Valued) (x : Inside) (fits : Fits files shapes t x) (m n : ℕ) (i : Inherited) → slice_get fits.shape.members.items m ≡ Some i → how_many shapes (width_in shapes depth) t m ≡ Some n → n < small → length (numbers (width_of i.member.now) (w x m)) ≡ n
  member_long t x fits m n i at e l = numbers_long t x fits m n (width_of i.member.now) (ap (many (width_in shapes depth t m)) (sym (width_is_written files shapes t x fits m i at)) ∙ e) l

  named_long : (t : Valued) (x : Inside) (fits : Fits files shapes t x) (q : List ℕ) (m n : ℕ) → thing_named fits.shape q ≡ Some (thing.Member m) → how_many shapes (width_in shapes depth) t m ≡ Some n → n < small → length (numbers_named files w x q) ≡ n
  named_long t x fits q m n is e l =
      let i = named_member files shapes t x fits q m is in
      ap (λ o. length (option_map_or (numbers_at files w x) o (None ∷ []))) (member_found files fits.shape x fits.of_class q m is)
      ∙ ap (λ o. length (option_map_or (λ (y : ℕ × Member). numbers (width_of y.1) (w x m)) o (None ∷ []))) (member_is files shapes t x fits m i.0 i.1)
      ∙ member_long t x fits m n i.0 i.1 e l

  -- a thing of the reactor itself
  own_long : (t : Valued) (x : Inside) (fits : Fits files shapes t x) (q : List ℕ) (th : OwnThing) (n : ℕ) → thing_named fits.shape q ≡ Some th → how_many_of shapes (width_in shapes depth) t th ≡ Some n → n < small → length (numbers_named files w x q) ≡ n
  own_long t x fits q (thing.Member m) n is e l = named_long t x fits q m n is e l
  own_long t x fits q (thing.Parameter p) n is e l = ap (λ o. length (option_map_or (numbers_at files w x) o (None ∷ []))) (member_lost files fits.shape x fits.of_class q none) ∙ Some_same 1 n e
    where
      none : (m : ℕ) → thing_named fits.shape q ≡ Some (thing.Member m) → ⊥
      none m f = let s : Some (thing.Parameter p) ≡ Some (thing.Member m) = sym is ∙ f in absurd (cc)

  places_long : (t : Valued) (x : Inside) (fits : Fits files shapes t x) (path : List ℕ) (interleaved : Bool) (q : List ℕ) (port : Option (List ℕ)) (n : ℕ) → option_and_then (how_many_meant shapes (width_in shapes depth) t) (meaning_named shapes fits.shape q port) ≡ Some n → n < small → length (things_named files w path x interleaved q port) ≡ n
  places_long t x fits path interleaved q None n e l =
      let meant = then_some (how_many_meant shapes (width_in shapes depth) t) (option_map (λ th. meaning.Own th) (thing_named fits.shape q)) n e in
      let th = option_map_some (λ th. meaning.Own th) (thing_named fits.shape q) meant.0 meant.1 in
      length-map (numbers_named files w x q) _ ∙ own_long t x fits q th.0 n th.1 (ap (how_many_meant shapes (width_in shapes depth) t) th.2 ∙ meant.2) l
  places_long t x fits path interleaved q (Some p) n e l =
      ap (λ z. length (things_named files w path x interleaved z (Some p))) (sym called)
      ∙ channels_length files w x b.instance at.0 at.1 at.2 (ap (place_named files x) called ∙ member_found files fits.shape x fits.of_class q b.instance b.is_instance) path p interleaved y.0 y.1
      ∙ product both.0 both.1 n (length (numbers_named files w y.0 p)) (length (numbers at.1.width (w x b.instance))) both.4 l ports_long members_long
    where
      meant : (z : Meaning) × (meaning_named shapes fits.shape q (Some p) ≡ Some z) × (how_many_meant shapes (width_in shapes depth) t z ≡ Some n)
      meant = then_some (how_many_meant shapes (width_in shapes depth) t) (meaning_named shapes fits.shape q (Some p)) n e

      b : IsPort shapes fits.shape q p meant.0
      b = port_is shapes fits.shape q p meant.0 meant.1

      both : (i : ℕ) × (j : ℕ) × (how_many_inside shapes (width_in shapes depth) t b.instance b.port ≡ Some i) × (how_many shapes (width_in shapes depth) t b.instance ≡ Some j) × (capped (i * j) ≡ n)
      both = times_some (how_many_inside shapes (width_in shapes depth) t b.instance b.port) (how_many shapes (width_in shapes depth) t b.instance) n (ap (how_many_meant shapes (width_in shapes depth) t) b.is_meant ∙ meant.2)

      u : (u : Valued) × (inside shapes t b.instance ≡ Some u) × (how_many shapes (width_in shapes depth) u b.port ≡ Some both.0)
      u = then_some (λ u. how_many shapes (width_in shapes depth) u b.port) (inside shapes t b.instance) both.0 both.2

      at : (file : ℕ) × (i : Instance) × (slice_get (members_of files x.class) b.instance ≡ Some (file, member.Instance i))
      at = nested.instance t u.0 x b.instance fits u.1

      y : (y : Inside) × (inside_of files x (at.0, at.1) ≡ Some y) × Fits files shapes u.0 y
      y = nested.inside_fits t u.0 x b.instance at.0 at.1 fits at.2 u.1

      -- the instance is the member of its name
      i : (i : Inherited) × (slice_get fits.shape.members.items b.instance ≡ Some i) × (option_map (λ (z : Name). string_bytes z.text) (name_of i.member.now) ≡ Some q)
      i = (fits.of_class.names q (thing.Member b.instance)).0 b.is_instance

      is_inst : i.0.member.now ≡ member.Instance at.1
      is_inst = ap (λ (p : ℕ × Member). p.1) (Some_same (i.0.file, i.0.member.now) (at.0, member.Instance at.1) (sym (member_is files shapes t x fits b.instance i.0 i.1) ∙ at.2))

      called : string_bytes at.1.name.text ≡ q
      called = Some_same (string_bytes at.1.name.text) q (ap (λ (z : Member). option_map (λ (z : Name). string_bytes z.text) (name_of z)) (sym is_inst) ∙ i.2)

      members_long : both.1 < small → length (numbers at.1.width (w x b.instance)) ≡ both.1
      members_long few = ap (λ (z : Member). length (numbers (width_of z) (w x b.instance))) (sym is_inst) ∙ member_long t x fits b.instance both.1 i.0 i.1 both.3 few

      -- and the port that of its own
      inner_is : b.inner ≡ y.2.shape
      inner_is = Some_same b.inner y.2.shape (sym b.is_inner ∙ shape_is_inside shapes b.instance t u.0 fits.shape y.2.shape fits.is_shape u.1 y.2.is_shape)

      ports_long : both.0 < small → length (numbers_named files w y.0 p) ≡ both.0
      ports_long few = named_long u.0 y.0 y.2 p b.port both.0 (ap (λ (z : Shape). thing_named z p) (sym inner_is) ∙ b.is_port) u.2 few

  -- a reference has as many channels as places
  pub channels_long : (t : Valued) (x : Inside) (fits : Fits files shapes t x) (path : List ℕ) (r : Reference) (n : ℕ) → how_many_places shapes (width_in shapes depth) t r ≡ Some n → n < small → length (channels files w path x r) ≡ n
  channels_long t x fits path r n e l = places_long t x fits path r.is_interleaved (string_bytes r.head.text) (option_map (λ (p : Name). string_bytes p.text) r.port) n (sym (ap (λ o. option_and_then (how_many_meant shapes (width_in shapes depth) t) (option_and_then (λ (z : Shape). meaning_of shapes z r) o)) fits.is_shape) ∙ e) l

  count_is : (t : Valued) (x : Inside) (fits : Fits files shapes t x) (c : Count) (n : ℕ) → settings_count shapes (width_in shapes depth) t c ≡ Some n → n < small → term_of_width files w x c ≡ Some n
  count_is t x fits (count.Number k) n e l = e
  count_is t x fits (count.Word q) n e l =
      let z = then_some natural (parameter_in shapes t (string_bytes q)) n e in
      let named : number_named fits.shape t.values (string_bytes q) ≡ Some z.0 = sym (ap (option_and_then (λ (s : Shape). number_named s t.values (string_bytes q))) fits.is_shape) ∙ z.1 in
      let v = number_fits files shapes t x fits (value.Word q) z.0 named in
      ap (λ o. option_and_then natural (option_and_then number_of o)) v.1 ∙ number_is v.0 z.0 n v.2 z.2 l
  count_is t x fits (count.WidthOf r) n e l = ap Some (channels_long t x fits [] r n e l)
  count_is t x fits count.Code n e l = absurd (cc)
  count_is t x fits count.Open n e l = absurd (cc)

  -- the terms of a width have their sum
  pub sum_is : (t : Valued) (x : Inside) (fits : Fits files shapes t x) (terms : List Term) (n : ℕ) → sum_in shapes (width_in shapes depth) t terms ≡ Some n → n < small → total_width (map (λ (z : Term). term_of_width files w x z.count) terms) ≡ Some n
  sum_is t x fits [] n e l = e
  sum_is t x fits (z ∷ zs) n e l =
      let p = plus_some (settings_count shapes (width_in shapes depth) t z.count) (sum_in shapes (width_in shapes depth) t zs) n e in
      let u : capped (p.0 + p.1) ≡ p.0 + p.1 = uncapped (p.0 + p.1) (let f = p.4 in omega (arith, f, l)) in
      let s : p.0 + p.1 ≡ n = sym u ∙ p.4 in
      let a : term_of_width files w x z.count ≡ Some p.0 = count_is t x fits z.count p.0 p.2 (omega (arith, s, l)) in
      let b : total_width (map (λ (z : Term). term_of_width files w x z.count) zs) ≡ Some p.1 = sum_is t x fits zs p.1 p.3 (omega (arith, s, l)) in
      ap (λ o. option_and_then (λ a. option_map (λ b. a + b) (total_width (map (λ (z : Term). term_of_width files w x z.count) zs))) o) a
      ∙ ap (option_map (λ b. p.0 + b)) b
      ∙ ap Some s

-- ---- the widths of a program

abbrev pub nothing : Widths
nothing x m = 0

-- the widths that are found in so many steps
abbrev pub widths_to : List SourceFile → ℕ → Widths
widths_to files d = widths_from files nothing d

module _ (files : List SourceFile) (shapes : List Shape) (nested : AreNested files shapes) where
  -- a width that is written stands at a member
  written_at : (t : Valued) (x : Inside) (fits : Fits files shapes t x) (m : ℕ) (width : Width) → written_width shapes t m ≡ Some width → (i : Inherited) × (slice_get fits.shape.members.items m ≡ Some i) × (width_of i.member.now ≡ Some width)
  written_at t x fits m width e =
      let i = then_some (λ (found : Inherited). width_of found.member.now) (member_in shapes t m) width e in
      (i.0, sym (ap (option_and_then (λ (s : Shape). slice_get s.members.items m)) fits.is_shape) ∙ i.1, i.2)

  -- a width that is found is found in the language, whatever widths there are to begin with
  pub width_is : (v : Widths) (d e : ℕ) → d ≤ e → (t : Valued) (x : Inside) → Fits files shapes t x → (m n : ℕ) → width_in shapes d t m ≡ Some n → n < small → widths_from files v e x m ≡ n
  width_is v zero e le t x fits m n is l = absurd (cc)
  width_is v (suc d) zero le t x fits m n is l = absurd (omega (arith, le))
  width_is v (suc d) (suc e) le t x fits m n is l =
      let width = then_some (λ (z : Width). sum_in shapes (width_in shapes d) t z.terms.items) (written_width shapes t m) n is in
      let i = written_at t x fits m width.0 width.1 in
      let s = sum_is files shapes nested d (widths_from files v e) (width_is v d e (omega (arith, le))) t x fits width.0.terms.items n width.2 l in
      ap (λ o. unwrap_or (option_and_then (λ (y : ℕ × Member). option_and_then (λ (u : Width). total_width (map (λ (z : Term). term_of_width files (widths_from files v e) x z.count) u.terms.items)) (width_of y.1)) o) 0) (member_is files shapes t x fits m i.0 i.1)
      ∙ ap (λ o. unwrap_or (option_and_then (λ (u : Width). total_width (map (λ (z : Term). term_of_width files (widths_from files v e) x z.count) u.terms.items)) o) 0) i.2
      ∙ ap (λ o. unwrap_or o 0) s

  module _ (depth : ℕ) (found : AreFound shapes depth) where
    is_one : (b : ℕ) → b ≡ 1 → 0 < b
    is_one b e = omega (arith, e)

    -- what is in an instance has a setting that is reached
    pub step_fits : (t : Valued) (x y : Inside) (k : ℕ) → IsReached shapes t → Fits files shapes t x → entered_instance files (widths_to files depth) x k ≡ Some y → (u : Valued) × IsReached shapes u × Fits files shapes u y
    step_fits t x y k reached fits e = go inner.0 j.1 inner.2 from.2
      where
        inner : (i : Inner) × (slice_get (inners files (widths_to files depth) x) k ≡ Some i) × (inside_of files x i.new ≡ Some y)
        inner = then_some (λ (i : Inner). inside_of files x i.new) (slice_get (inners files (widths_to files depth) x) k) y e

        from : (p : ℕ × (ℕ × Member)) × Mem p (enumerate_from 0 (members_of files x.class)) × Mem inner.0 (inners_at (widths_to files depth) x p)
        from = mem_from_flat (inners_at (widths_to files depth) x) (enumerate_from 0 (members_of files x.class)) inner.0 (mem_get (inners files (widths_to files depth) x) k inner.0 inner.1)

        j : (n : ℕ) × (slice_get (members_of files x.class) from.0.0 ≡ Some from.0.1)
        j = let g = get_mem from.0 (enumerate_from 0 (members_of files x.class)) from.1 in let h = enumerated 0 (members_of files x.class) g.0 from.0 g.1 in let n : from.0.0 ≡ g.0 = (let a = h.0 in omega (arith, a)) in (g.0, ap (slice_get (members_of files x.class)) n ∙ h.1)

        go : (i : Inner) → slice_get (members_of files x.class) from.0.0 ≡ Some from.0.1 → inside_of files x i.new ≡ Some y → Mem i (inners_at (widths_to files depth) x from.0) → (u : Valued) × IsReached shapes u × Fits files shapes u y
        go i at new m = by from.0.0 from.0.1.0 from.0.1.1 at m
          where
            by : (m file : ℕ) (mem : Member) → slice_get (members_of files x.class) m ≡ Some (file, mem) → Mem i (inners_at (widths_to files depth) x (m, (file, mem))) → (u : Valued) × IsReached shapes u × Fits files shapes u y
            by m file (member.Port p) at k = absurd k
            by m file (member.Timer p) at k = absurd k
            by m file (member.Action p) at k = absurd k
            by m file (member.Reaction p) at k = absurd k
            by m file (member.Connection p) at k = absurd k
            by m file (member.Foreign what p) at k = absurd k
            by m file (member.Instance p) at k =
                let n = mem_from_map (λ (n : Option ℕ). named n) (numbers p.width (widths_to files depth x m)) i k in
                let is_y : inside_of files x (file, p) ≡ Some y = ap (λ (z : Inner). inside_of files x z.new) n.2 ∙ new in
                let u = nested.exists t x y m file p fits at is_y in
                let f = nested.inside_fits t u.0 x m file p fits at u.1 in
                let same : f.0 ≡ y = Some_same f.0 y (sym f.1 ∙ is_y) in
                let many = is_many p.width refl n.0 n.1 in
                (u.0, within m reached (record { instance = is_inst; is_inside = u.1; count = many.0; many = many.1; some = many.2 }), subst (Fits files shapes u.0) same f.2)
              where
                named : Option ℕ → Inner
                named n = record { name = name_with_number (string_bytes p.name.text) n; new = (file, p) }

                own : (i : Inherited) × (slice_get fits.shape.members.items m ≡ Some i) × (◌≡◌ {A = ℕ × Member} (i.file, i.member.now) (file, member.Instance p))
                own = mapped_from (λ (i : Inherited). (i.file, i.member.now)) fits.shape.members.items m (file, member.Instance p) (ap (λ l. slice_get l m) fits.of_class.members ∙ at)

                here : member_in shapes t m ≡ Some own.0
                here = ap (option_and_then (λ (s : Shape). slice_get s.members.items m)) fits.is_shape ∙ own.1

                is_inst : is_instance_in shapes t m ≡ true
                is_inst = ap (λ o. unwrap_or (option_map (λ (i : Inherited). is_instance i.member.now) o) false) here ∙ ap (λ (q : ℕ × Member). is_instance q.1) own.2

                wide : written_width shapes t m ≡ p.width
                wide = ap (option_and_then (λ (i : Inherited). width_of i.member.now)) here ∙ ap (λ (q : ℕ × Member). width_of q.1) own.2

                is_many : (o : Option Width) → p.width ≡ o → (n : Option ℕ) → Mem n (numbers p.width (widths_to files depth x m)) → (count : ℕ) × IsMany shapes t m count × (0 < count)
                is_many None q n k = (1, (0, ap (many (width_in shapes 0 t m)) (wide ∙ q)), is_one 1 refl)
                is_many (Some v) q n k =
                    let h = found t m v reached (wide ∙ q) in
                    let e : widths_to files depth x m ≡ h.1 = width_is nothing h.0 depth h.2 t x fits m h.1 h.3 h.4 in
                    let c = mem_from_map Some (below (widths_to files depth x m)) n (subst (λ o. Mem n (numbers o (widths_to files depth x m))) q k) in
                    (h.1, (h.0, ap (many (width_in shapes h.0 t m)) (wide ∙ q) ∙ h.3), some (widths_to files depth x m) h.1 c.0 e c.1)
                  where
                    some : (a b c : ℕ) → a ≡ b → Mem c (below a) → 0 < b
                    some zero b c e k = absurd k
                    some (suc a) b c e k = omega (arith, e)

    -- so has each instance
    pub path_fits : (path : List ℕ) (t : Valued) (x y : Inside) → IsReached shapes t → Fits files shapes t x → along (entered_instance files (widths_to files depth)) x path ≡ Some y → (u : Valued) × IsReached shapes u × Fits files shapes u y
    path_fits [] t x y reached fits e = (t, reached, subst (Fits files shapes t) (Some_same x y e) fits)
    path_fits (k ∷ path) t x y reached fits e =
        let z = then_some (λ z. along (entered_instance files (widths_to files depth)) z path) (entered_instance files (widths_to files depth) x k) y e in
        let u = step_fits t x z.0 k reached fits z.1 in
        path_fits path u.0 z.0 y u.1 u.2 z.2

    -- the widths are the sums of their terms
    pub are_widths : (t : Valued) (c : Class) → main_of files ≡ Some c → IsReached shapes t → Fits files shapes t (main_class_instance files c) → AreWidths files (widths_to files depth)
    are_widths t c is_main reached fits path x k m width inside at wide =
        let same : c ≡ inside.0 = Some_same c inside.0 (sym is_main ∙ inside.1) in
        let u = path_fits path t (main_class_instance files c) x reached fits (ap (λ d. along (entered_instance files (widths_to files depth)) (main_class_instance files d) path) same ∙ inside.2) in
        of u.0 u.1 u.2
      where
        of : (u : Valued) → IsReached shapes u → Fits files shapes u x → total_width (map (λ z. term_of_width files (widths_to files depth) x z.count) width.terms.items) ≡ Some (widths_to files depth x k)
        of u reached fits = steps h.0 h.2 h.3
          where
            own : (i : Inherited) × (slice_get fits.shape.members.items k ≡ Some i) × (◌≡◌ {A = ℕ × Member} (i.file, i.member.now) m)
            own = mapped_from (λ (i : Inherited). (i.file, i.member.now)) fits.shape.members.items k m (ap (λ l. slice_get l k) fits.of_class.members ∙ at)

            written : written_width shapes u k ≡ Some width
            written = width_is_written files shapes u x fits k own.0 own.1 ∙ ap (λ (q : ℕ × Member). width_of q.1) own.2 ∙ wide

            h : (d : ℕ) × (n : ℕ) × (d ≤ depth) × (width_in shapes d u k ≡ Some n) × (n < small)
            h = found u k width reached written

            steps : (d : ℕ) → d ≤ depth → width_in shapes d u k ≡ Some h.1 → total_width (map (λ z. term_of_width files (widths_to files depth) x z.count) width.terms.items) ≡ Some (widths_to files depth x k)
            steps zero le e = absurd (cc)
            steps (suc d) le e =
                let s : sum_in shapes (width_in shapes d) u width.terms.items ≡ Some h.1 = sym (ap (option_and_then (λ (v : Width). sum_in shapes (width_in shapes d) u v.terms.items)) written) ∙ e in
                sum_is files shapes nested d (widths_to files depth) (width_is nothing d depth (omega (arith, le))) u x fits width.terms.items h.1 s h.4
                ∙ ap Some (sym (width_is nothing (suc d) depth le u x fits k h.1 e h.4))
