-- What references of a reactor mean.
use Rattle.std.specs.Prelude.{ℕ, List, Option, Some, None, option_map, slice_get, string_bytes}
use Rattle.std.specs.Option.{option_and_then}
use Rattle.lft_whole.specs.declared.tree.{Member.Member, Reference.Reference}
use Rattle.lft_classes.specs.{declared.shapes.{Shape.Shape, OwnThing.OwnThing}, inner.Shapes.{child_at, thing_named}}
use Rattle.lft_elaborate.specs.declared.meanings.Meaning.{Meaning}
use Rattle.lft_elaborate.specs.declared.meanings.Meaning.TheVariants as meaning
use Rattle.lft_whole.specs.declared.tree.Member.TheVariants as member
use Rattle.lft_classes.specs.declared.shapes.OwnThing.TheVariants as things

-- the number, if this member is a port
abbrev pub if_port : ℕ → Member → Option ℕ
if_port n (member.Port port) = Some n
if_port n _ = None

-- the number of the port that a thing is
abbrev pub port_number : Shape → OwnThing → Option ℕ
port_number shape (things.Parameter n) = None
port_number shape (things.Member n) = option_and_then (λ m. if_port n m.member.now) (slice_get shape.members.items n)

-- the number of the port of this name
abbrev pub port_number_in : Shape → List ℕ → Option ℕ
port_number_in shape name = option_and_then (port_number shape) (thing_named shape name)

-- the shape of the reactor of the instance of this number
abbrev pub shape_inside : List Shape → Shape → ℕ → Option Shape
shape_inside shapes shape instance = option_and_then (λ child. slice_get shapes child.shape) (child_at shape.children.items instance)

-- the port of this name in the shape of an instance
abbrev pub port_of : ℕ → List ℕ → Shape → Option Meaning
port_of instance name inner = option_map (λ port. meaning.Port instance port) (port_number_in inner name)

-- the port of this name of an instance, if the thing is one
abbrev pub port_behind : List Shape → Shape → List ℕ → OwnThing → Option Meaning
port_behind shapes shape name (things.Parameter n) = None
port_behind shapes shape name (things.Member n) = option_and_then (port_of n name) (shape_inside shapes shape n)

-- what a name means, or of an instance a port
abbrev pub meaning_named : List Shape → Shape → List ℕ → Option (List ℕ) → Option Meaning
meaning_named shapes shape head None = option_map (λ thing. meaning.Own thing) (thing_named shape head)
meaning_named shapes shape head (Some name) = option_and_then (port_behind shapes shape name) (thing_named shape head)

-- what a reference means
abbrev pub meaning_of : List Shape → Shape → Reference → Option Meaning
meaning_of shapes shape r = meaning_named shapes shape (string_bytes r.head.text) (option_map (λ name. string_bytes name.text) r.port)
