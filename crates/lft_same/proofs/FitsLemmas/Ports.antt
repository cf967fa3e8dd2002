-- Shapes of instances, and ports of instances that are meant.
use Rattle.std.proofs.Common.{◌≡◌, ℕ, List, Some, slice_get, sym, ap, ◌∙◌}
use Rattle.std.specs.Option.{option_and_then}
use Rattle.lft_lists.proofs.{Mapped.option_map_some, Places.Some_same}
use Rattle.lft_program.proofs.Zipping.{then_some}
use Rattle.lft_whole.specs.declared.tree.Member.{Member}
use Rattle.lft_classes.specs.{declared.shapes.{Child.Child, Inherited.Inherited, Shape.Shape, OwnThing.OwnThing}, inner.Shapes.{child_at, thing_named}}
use Rattle.lft_elaborate.specs.inner.Meanings.{if_port, meaning_named, port_behind, port_number_in, port_number, port_of, shape_inside}
use Rattle.lft_elaborate.specs.inner.Values.{Valued, inside, setting_of, values_inside}
use Rattle.lft_elaborate.specs.declared.meanings.Meaning.{Meaning}
use Rattle.lft_elaborate.specs.declared.meanings.Meaning.TheVariants as meaning
use Rattle.lft_whole.specs.declared.tree.Member.TheVariants as member
use Rattle.lft_classes.specs.declared.shapes.OwnThing.TheVariants as thing

-- the shape in an instance is that of the setting in it
pub shape_is_inside : (shapes : List Shape) (n : ℕ) (t u : Valued) (shape inner : Shape) → slice_get shapes t.shape ≡ Some shape → inside shapes t n ≡ Some u → slice_get shapes u.shape ≡ Some inner → shape_inside shapes shape n ≡ Some inner
shape_is_inside shapes n t u shape inner is_shape in_u is_inner =
    ap (option_and_then (λ (c : Child). slice_get shapes c.shape)) child.1 ∙ ap (slice_get shapes) (ap (λ (v : Valued). v.shape) made.2) ∙ is_inner
  where
    child : (child : Child) × (child_at shape.children.items n ≡ Some child) × (setting_of shapes shape t.values child ≡ Some u)
    child = then_some (setting_of shapes shape t.values) (child_at shape.children.items n) u (sym (ap (option_and_then (λ (outer : Shape). option_and_then (setting_of shapes outer t.values) (child_at outer.children.items n))) is_shape) ∙ in_u)

    valued : Shape → Valued
    valued inner = record { shape = child.0.shape; values = values_inside shape t.values child.0.given.items inner }

    made : (inner : Shape) × (slice_get shapes child.0.shape ≡ Some inner) × (valued inner ≡ u)
    made = option_map_some valued (slice_get shapes child.0.shape) u child.2

-- the port of a name is the member of that name
named_port : (shape : Shape) (p : List ℕ) (port : ℕ) → port_number_in shape p ≡ Some port → thing_named shape p ≡ Some (thing.Member port)
named_port shape p port is = let t = then_some (port_number shape) (thing_named shape p) port is in t.1 ∙ ap Some (one t.0 t.2)
  where
    numbered : (n : ℕ) (m : Member) → if_port n m ≡ Some port → n ≡ port
    numbered n (member.Port q) e = Some_same n port e
    numbered n (member.Timer q) e = absurd (cc)
    numbered n (member.Action q) e = absurd (cc)
    numbered n (member.Reaction q) e = absurd (cc)
    numbered n (member.Instance q) e = absurd (cc)
    numbered n (member.Connection q) e = absurd (cc)
    numbered n (member.Foreign what q) e = absurd (cc)

    one : (t : OwnThing) → port_number shape t ≡ Some port → t ≡ thing.Member port
    one (thing.Parameter n) e = absurd (cc)
    one (thing.Member n) e = let r = then_some (λ (m : Inherited). if_port n m.member.now) (slice_get shape.members.items n) port e in ap thing.Member (numbered n r.0.member.now r.2)

-- what two names mean: a port of an instance
pub record IsPort (shapes : List Shape) (shape : Shape) (q p : List ℕ) (z : Meaning) : Type 0 where
  pub instance : ℕ
  pub is_instance : thing_named shape q ≡ Some (thing.Member instance)
  pub inner : Shape
  pub is_inner : shape_inside shapes shape instance ≡ Some inner
  pub port : ℕ
  pub is_port : thing_named inner p ≡ Some (thing.Member port)
  pub is_meant : meaning.Port instance port ≡ z

pub port_is : (shapes : List Shape) (shape : Shape) (q p : List ℕ) (z : Meaning) → meaning_named shapes shape q (Some p) ≡ Some z → IsPort shapes shape q p z
port_is shapes shape q p z e = let t = then_some (port_behind shapes shape p) (thing_named shape q) z e in by t.0 t.1 t.2
  where
    by : (t : OwnThing) → thing_named shape q ≡ Some t → port_behind shapes shape p t ≡ Some z → IsPort shapes shape q p z
    by (thing.Parameter n) is f = absurd (cc)
    by (thing.Member m) is f =
        let i = then_some (port_of m p) (shape_inside shapes shape m) z f in
        let r = option_map_some (λ port. meaning.Port m port) (port_number_in i.0 p) z i.2 in
        record { instance = m; is_instance = is; inner = i.0; is_inner = i.1; port = r.0; is_port = named_port i.0 p r.0 r.1; is_meant = r.2 }
