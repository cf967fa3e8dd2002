-- Times as they are written, and as names of parameters.
use Rattle.std.specs.Prelude.{◌≡◌, ◌≤◌, zero, true, false, IsSomeAnd, Option, Some, None, option_map, slice_get, string_bytes}
use Rattle.std.specs.Option.{option_and_then}
use Rattle.lft_resolve.specs.Causes.{longest}
use Rattle.lft_tree.specs.{Tree.{TimeTree, Written, Named, nanoseconds}, declared.tree.Time.Time}
use Rattle.lft_classes.specs.{declared.shapes.{InheritedParameter.InheritedParameter, Shape.Shape, OwnThing.OwnThing}, inner.Shapes.thing_named}
use Rattle.lft_whole.specs.declared.tree.WrittenValue.{WrittenValue}
use Rattle.lft_classes.specs.declared.shapes.OwnThing.TheVariants as things
use Rattle.lft_whole.specs.declared.tree.WrittenValue.TheVariants as value

-- the time that a value writes out: a whole number with a unit, or 0
abbrev pub time_of_value : WrittenValue → Option Time
time_of_value (value.Number false count (Some unit)) = Some (record { count = count; unit = Some unit })
time_of_value (value.Number false zero None) = Some (record { count = 0; unit = None })
time_of_value _ = None

-- what becomes of a value that is read as a time: the name that it is, or the time that it writes out
abbrev pub time_for : WrittenValue → Option TimeTree
time_for (value.Word name) = Some (Named (string_bytes name))
time_for v = option_map Written (time_of_value v)

-- the parameter that a thing is
abbrev pub parameter_of_thing : Shape → OwnThing → Option InheritedParameter
parameter_of_thing shape (things.Parameter n) = slice_get shape.parameters.items n
parameter_of_thing shape (things.Member n) = None

-- the parameter whose name a value is
abbrev pub named_by : Shape → WrittenValue → Option InheritedParameter
named_by shape (value.Word word) = option_and_then (parameter_of_thing shape) (thing_named shape (string_bytes word))
named_by shape _ = None

-- the value writes out a time that isn't past the greatest
abbrev pub IsWrittenTime : WrittenValue → Type 0
IsWrittenTime v = IsSomeAnd (time_of_value v) (λ time. nanoseconds time ≤ longest)

-- the value can be read as a time: it is the name of a parameter that is one, or it writes one out
abbrev pub IsTime : Shape → WrittenValue → Type 0
IsTime shape (value.Word word) = IsSomeAnd (named_by shape (value.Word word)) (λ p. p.parameter.now.is_time ≡ true)
IsTime shape v = IsWrittenTime v
