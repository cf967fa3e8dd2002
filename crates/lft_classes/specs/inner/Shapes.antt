-- Inside: what stands in a reactor with all that it inherits.
use Rattle.std.specs.Prelude.{ℕ, List, Option, map, option_map, slice_get}
use Rattle.std.specs.Option.{option_and_then}
use Rattle.lft_resolve.specs.inner.Places.{place_in}
use Rattle.lft_whole.specs.declared.tree.Member.{Member}
use Rattle.lft_classes.specs.declared.shapes.{Child.Child, Shape.Shape, OwnThing.OwnThing}
use Rattle.lft_whole.specs.declared.tree.Member.TheVariants as member

-- the token of a member's name, or 0
abbrev pub name_token : Member → ℕ
name_token (member.Port port) = port.name.at
name_token (member.Timer timer) = timer.name.at
name_token (member.Action action) = action.name.at
name_token (member.Instance instance) = instance.name.at
name_token _ = 0

-- what the name is in the shape
abbrev pub thing_named : Shape → List ℕ → Option OwnThing
thing_named shape q = option_map (λ n. n.thing) (option_and_then (slice_get shape.named.items) (place_in shape.names q))

-- what is in the member of this number, if it is an instance
abbrev pub child_at : List (Option Child) → ℕ → Option Child
child_at children k = option_and_then (λ child. child) (slice_get children k)

-- what is in the members of each shape
abbrev pub tables : List Shape → List (List (Option Child))
tables shapes = map (λ shape. shape.children.items) shapes

-- what is in the member of this number of a shape
abbrev pub child_in : List (List (Option Child)) → ℕ → ℕ → Option Child
child_in rows s k = option_and_then (λ children. child_at children k) (slice_get rows s)

-- the number of the shape there
abbrev pub inside : List (List (Option Child)) → ℕ → ℕ → Option ℕ
inside rows s k = option_map (λ child. child.shape) (child_in rows s k)
