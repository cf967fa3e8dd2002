-- How names are noted. The contracts of the crate's own functions alone need this file.
use Rattle.std.specs.Prelude.{◌≡◌, ℕ, List, Some, slice_get}
use Rattle.lft_classes.specs.{declared.shapes.{Inherited.Inherited, InheritedParameter.InheritedParameter, Named.Named, OwnThing.OwnThing}, inner.Built.HasName}

-- each of these is noted as what has the name
abbrev pub EachNamed : List InheritedParameter → List Inherited → List Named → Type 0
EachNamed ps ms ns = (i : ℕ) (n : Named) → slice_get ns i ≡ Some n → HasName ps ms n.name.now n.thing

-- the name is noted as that of the thing
abbrev pub HasNamed : List Named → List ℕ → OwnThing → Type 0
HasNamed ns q t = (i : ℕ) × ((n : Named) × (slice_get ns i ≡ Some n) × ((n.name.now ≡ q) × (n.thing ≡ t)))
