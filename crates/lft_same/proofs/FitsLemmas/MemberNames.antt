-- The names in a shape mean what they mean in the language.
use Rattle.std.proofs.Common.{◌≡◌, ℕ, zero, suc, Bool, true, false, List, [], ◌∷◌, Option, Some, None, option_map, slice_get, refl, sym, ap, ◌∙◌, arith}
use Rattle.std.specs.Prelude.{if◌then◌else◌, string_bytes}
use Rattle.std.{specs.{List.position, Option.option_map_or}, proofs.lemmas.Slice.Eq.bytes_eq-Decides}
use Rattle.lft_lists.proofs.Mapped.{mapped, mapped_from}
use Rattle.lft_whole.specs.declared.{sources.source.SourceFile.SourceFile, tree.{Member.Member, Name.Name, Parameter.Parameter, WrittenValue.WrittenValue}}
use Rattle.lft_classes.specs.declared.shapes.{Inherited.Inherited, InheritedParameter.InheritedParameter, Shape.Shape}
use Rattle.lft_classes.specs.{inner.{Built.located_parameters, Shapes.thing_named}, Shapes.name_of}
use Rattle.lft_same.specs.Expanded.{Instances.{Inside, place_named, value_by_name, value_named}, Reactors.{is_named, members_of, parameters_of}}
use Rattle.lft_same.specs.inner.Fits.Fits.{IsShapeOf}
use Rattle.lft_same.proofs.FitsLemmas.ClassNames.{called, called_so, named_so, position_found, position_lost}
use Rattle.lft_classes.specs.declared.shapes.OwnThing.TheVariants as thing

-- the member has the name
abbrev pub has_name : List ℕ → ℕ × Member → Bool
has_name q m = option_map_or (is_named q) (name_of m.1) false

module _ (files : List SourceFile) (shape : Shape) (x : Inside) (is : IsShapeOf files shape x.class) (q : List ℕ) where
  -- what has the name at a place is what the name is
  at_place : (k : ℕ) (y : ℕ × Member) → slice_get (members_of files x.class) k ≡ Some y → has_name q y ≡ true → thing_named shape q ≡ Some (thing.Member k)
  at_place k y at has =
      let m = mapped_from (λ (m : Inherited). (m.file, m.member.now)) shape.members.items k y (ap (λ l. slice_get l k) is.members ∙ at) in
      let n : option_map (λ (n : Name). string_bytes n.text) (name_of m.0.member.now) ≡ Some q = called_so q (name_of m.0.member.now) (ap (λ (z : ℕ × Member). option_map_or (is_named q) (name_of z.1) false) m.2 ∙ has) in
      (is.names q (thing.Member k)).1 (m.0, m.1, n)

  -- a member is found by its name
  pub member_found : (m : ℕ) → thing_named shape q ≡ Some (thing.Member m) → place_named files x q ≡ Some m
  member_found m e = go (position (has_name q) (members_of files x.class)) refl
    where
      h : (i : Inherited) × (slice_get shape.members.items m ≡ Some i) × (option_map (λ (n : Name). string_bytes n.text) (name_of i.member.now) ≡ Some q)
      h = (is.names q (thing.Member m)).0 e

      there : slice_get (members_of files x.class) m ≡ Some (h.0.file, h.0.member.now)
      there = ap (λ l. slice_get l m) (sym is.members) ∙ mapped (λ (i : Inherited). (i.file, i.member.now)) shape.members.items m h.0 h.1

      go : (o : Option ℕ) → position (has_name q) (members_of files x.class) ≡ o → o ≡ Some m
      go None p = absurd (position_lost (has_name q) (members_of files x.class) m (h.0.file, h.0.member.now) there (called q (name_of h.0.member.now) h.2) p)
      go (Some k) p =
          let y = position_found (has_name q) (members_of files x.class) k p in
          let t : Some (thing.Member k) ≡ Some (thing.Member m) = sym (at_place k y.0 y.1 y.2) ∙ e in
          let s : k ≡ m = cc in ap Some s

  -- and nothing else is
  pub member_lost : ((m : ℕ) → thing_named shape q ≡ Some (thing.Member m) → ⊥) → place_named files x q ≡ None
  member_lost none = go (position (has_name q) (members_of files x.class)) refl
    where
      go : (o : Option ℕ) → position (has_name q) (members_of files x.class) ≡ o → o ≡ None
      go None p = refl
      go (Some k) p = let y = position_found (has_name q) (members_of files x.class) k p in absurd (none k (at_place k y.0 y.1 y.2))

  -- a parameter has the value at its place
  pub value_found : (p : ℕ) (v : Option WrittenValue) → thing_named shape q ≡ Some (thing.Parameter p) → slice_get x.values p ≡ Some v → value_named files x q ≡ v
  value_found p v e has =
      let h = (is.names q (thing.Parameter p)).0 e in
      value_first (parameters_of files x.class) x.values p h.0.parameter.now (alone p e) (there p h.0 h.1) ((bytes_eq-Decides q (string_bytes h.0.parameter.now.name.text)).1 (sym h.2)) v has
    where
      there : (k : ℕ) (i : InheritedParameter) → slice_get shape.parameters.items k ≡ Some i → slice_get (parameters_of files x.class) k ≡ Some i.parameter.now
      there k i at = ap (λ l. slice_get l k) (sym is.parameters) ∙ mapped (λ (z : ℕ × Parameter). z.1) (located_parameters shape.parameters.items) k (i.file, i.parameter.now) (mapped (λ (z : InheritedParameter). (z.file, z.parameter.now)) shape.parameters.items k i at)

      alone : (p : ℕ) → thing_named shape q ≡ Some (thing.Parameter p) → (j : ℕ) (r : Parameter) → slice_get (parameters_of files x.class) j ≡ Some r → is_named q r.name ≡ true → j ≡ p
      alone p e j r at has =
          let z = mapped_from (λ (w : ℕ × Parameter). w.1) (located_parameters shape.parameters.items) j r (ap (λ l. slice_get l j) is.parameters ∙ at) in
          let i = mapped_from (λ (w : InheritedParameter). (w.file, w.parameter.now)) shape.parameters.items j z.0 z.1 in
          let same : i.0.parameter.now ≡ r = ap (λ (w : ℕ × Parameter). w.1) i.2 ∙ z.2 in
          let t : thing_named shape q ≡ Some (thing.Parameter j) = (is.names q (thing.Parameter j)).1 (i.0, i.1, ap (λ (w : Parameter). string_bytes w.name.text) same ∙ named_so q r.name has) in
          let s : Some (thing.Parameter j) ≡ Some (thing.Parameter p) = sym t ∙ e in cc

      value_first : (ps : List Parameter) (vs : List (Option WrittenValue)) (p : ℕ) (r : Parameter) → ((j : ℕ) (s : Parameter) → slice_get ps j ≡ Some s → is_named q s.name ≡ true → j ≡ p) → slice_get ps p ≡ Some r → is_named q r.name ≡ true → (v : Option WrittenValue) → slice_get vs p ≡ Some v → value_by_name ps vs q ≡ v
      value_first [] vs p r alone at has v is = absurd (cc)
      value_first (s ∷ ps) [] p r alone at has v is = absurd (cc)
      value_first (s ∷ ps) (w ∷ vs) zero r alone at has v is =
          let one : s ≡ r = cc in
          let two : w ≡ v = cc in
          ap (λ (b : Bool). if b then w else value_by_name ps vs q) (ap (λ (z : Parameter). is_named q z.name) one ∙ has) ∙ two
      value_first (s ∷ ps) (w ∷ vs) (suc p) r alone at has v is = go (is_named q s.name) refl (value_first ps vs p r (λ j t f g. let n : suc j ≡ suc p = alone (suc j) t f g in omega arith) at has v is)
        where
          go : (b : Bool) → is_named q s.name ≡ b → value_by_name ps vs q ≡ v → (if b then w else value_by_name ps vs q) ≡ v
          go true e rest = absurd (let n : 0 ≡ suc p = alone 0 s refl e in omega arith)
          go false e rest = rest
