-- Shapes and settings, as reactors and instances of the language.
use Rattle.std.specs.Prelude.{◌≡◌, ◌↔◌, ℕ, ◌+◌, ℤ, true, List, Some, length, map, slice_get}
use Rattle.lft_whole.specs.declared.{sources.source.SourceFile.SourceFile, tree.WrittenValue.WrittenValue}
use Rattle.lft_classes.specs.declared.shapes.{Shape.Shape, OwnThing.OwnThing}
use Rattle.lft_classes.specs.inner.{Built.{HasName, located, located_parameters}, Scopes.reactors_before, Shapes.thing_named}
use Rattle.lft_elaborate.specs.inner.Values.{Valued, is_sized, literal}
use Rattle.lft_same.specs.Expanded.{Instances.Inside, Reactors.{Class, members_of, parameters_of}}

-- the number of a reactor among those of all files
abbrev pub number_at : List SourceFile → Class → ℕ
number_at files c = length (reactors_before files c.0) + c.1

-- the shape is of the reactor: it has the members and parameters of that one and of all that it extends, in order
pub record IsShapeOf (files : List SourceFile) (shape : Shape) (c : Class) : Type 0 where
  pub number : shape.class.number ≡ number_at files c
  pub members : located shape.members.items ≡ members_of files c
  pub parameters : map (λ p. p.1) (located_parameters shape.parameters.items) ≡ parameters_of files c
  pub names : (q : List ℕ) (t : OwnThing) → (thing_named shape q ≡ Some t) ↔ HasName shape.parameters.items shape.members.items q t

-- the setting fits the instance: its shape is of the reactor, and the numbers of parameters that widths need are those of the values
pub record Fits (files : List SourceFile) (shapes : List Shape) (t : Valued) (x : Inside) : Type 0 where
  pub shape : Shape
  pub is_shape : slice_get shapes t.shape ≡ Some shape
  pub of_class : IsShapeOf files shape x.class
  pub numbers : (p : ℕ) (n : ℤ) → is_sized shape p ≡ true → slice_get t.values p ≡ Some (Some n) → (v : WrittenValue) × (slice_get x.values p ≡ Some (Some v)) × (literal v ≡ Some n)
