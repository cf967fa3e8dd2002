-- Inside: reactors with the numbers of their parameters, from the texts alone.
use Rattle.std.specs.Prelude.{[], ℕ, ◌^◌, ℤ, pos, neg_ℤ, min, Bool, true, false, ◌==◌, List, ◌∷◌, map, length, Option, Some, None, option_map, slice_get, string_bytes, unwrap_or, if◌then◌else◌, ◌≡◌}
use Rattle.std.specs.Option.{option_and_then, option_or}
use Rattle.lft_elaborate.specs.Channels.Channels.{below}
use Rattle.lft_whole.specs.declared.tree.WrittenValue.{WrittenValue}
use Rattle.lft_classes.specs.{declared.shapes.{Child.Child, GivenValue.GivenValue, Shape.Shape, OwnThing.OwnThing}, inner.Shapes.{child_at, thing_named}}
use Rattle.lft_whole.specs.declared.tree.WrittenValue.TheVariants as value
use Rattle.lft_classes.specs.declared.shapes.OwnThing.TheVariants as thing

-- a shape, by its number, and for each of its parameters its number, if it has one
pub record Valued : Type 0 where
  pub shape : ℕ
  pub values : List (Option ℤ)

-- a number of 2^62 or more counts as 2^62
abbrev pub signed : Bool → ℕ → ℤ
signed true count = neg_ℤ (pos (min count (2 ^ 62)))
signed false count = pos (min count (2 ^ 62))

-- the whole number that a value writes out
abbrev pub literal : WrittenValue → Option ℤ
literal (value.Number negative count None) = Some (signed negative count)
literal _ = None

-- a width needs the parameter of this number
abbrev pub is_sized : Shape → ℕ → Bool
is_sized shape p = unwrap_or (slice_get shape.sized.items p) false

-- the number of a thing of the shape: of a parameter that a width needs
abbrev pub number_of : Shape → List (Option ℤ) → OwnThing → Option ℤ
number_of shape values (thing.Parameter p) = if is_sized shape p then option_and_then (λ v. v) (slice_get values p) else None
number_of shape values (thing.Member m) = None

-- the number that a name stands for
abbrev pub number_named : Shape → List (Option ℤ) → List ℕ → Option ℤ
number_named shape values q = option_and_then (number_of shape values) (thing_named shape q)

-- the number that a value is: one that is written out, or that of a parameter
abbrev pub number_in : Shape → List (Option ℤ) → WrittenValue → Option ℤ
number_in shape values (value.Word word) = number_named shape values (string_bytes word)
number_in shape values (value.Number negative count unit) = literal (value.Number negative count unit)
number_in shape values value.Code = None
number_in shape values value.Other = None

-- the default that is written at the parameter of this number
abbrev pub default_written : Shape → ℕ → Option WrittenValue
default_written shape p = option_and_then (λ found. option_map (λ e. e.value) found.parameter.now.default) (slice_get shape.parameters.items p)

-- the number that this is
abbrev pub default_at : Shape → ℕ → Option ℤ
default_at shape p = option_and_then literal (default_written shape p)

-- what `new` gives to the parameter of this number
abbrev pub given_to : List GivenValue → ℕ → Option WrittenValue
given_to [] p = None
given_to (g ∷ gs) p = if g.parameter == p then Some g.value.now.value else given_to gs p

-- a value that is given, read in the reactor around, or else the default
abbrev pub chosen : Shape → List (Option ℤ) → Option WrittenValue → Option ℤ → Option ℤ
chosen outer values (Some given) default = number_in outer values given
chosen outer values None default = default

-- the number of a parameter in an instance; of one that decides no width 0
abbrev pub value_inside : Shape → List (Option ℤ) → List GivenValue → Shape → ℕ → Option ℤ
value_inside outer values gs inner p = if is_sized inner p then chosen outer values (given_to gs p) (default_at inner p) else Some (pos 0)

-- of each parameter
abbrev pub values_inside : Shape → List (Option ℤ) → List GivenValue → Shape → List (Option ℤ)
values_inside outer values gs inner = map (value_inside outer values gs inner) (below (length inner.parameters.items))

-- the number of a parameter of the main reactor: its default; of one that decides no width 0
abbrev pub main_value : Shape → ℕ → Option ℤ
main_value main p = if is_sized main p then default_at main p else Some (pos 0)

-- of each parameter
abbrev pub main_values : Shape → List (Option ℤ)
main_values main = map (main_value main) (below (length main.parameters.items))

-- the setting of the main reactor, whose shape is the first one
abbrev pub main_setting : List Shape → Option Valued
main_setting shapes = option_map (λ main. record { shape = 0; values = main_values main }) (slice_get shapes 0)

-- the setting of what is in an instance of the reactor around
abbrev pub setting_of : List Shape → Shape → List (Option ℤ) → Child → Option Valued
setting_of shapes outer values child = option_map (λ inner. record { shape = child.shape; values = values_inside outer values child.given.items inner }) (slice_get shapes child.shape)

-- the setting of the instance that is the member of this number
abbrev pub inside : List Shape → Valued → ℕ → Option Valued
inside shapes t m = option_and_then (λ outer. option_and_then (setting_of shapes outer t.values) (child_at outer.children.items m)) (slice_get shapes t.shape)

-- no width needs any parameter of the shape of this number
abbrev pub IsUnsized : List Shape → ℕ → Type 0
IsUnsized shapes k = (shape : Shape) (p : ℕ) → slice_get shapes k ≡ Some shape → is_sized shape p ≡ false

-- what is written for the parameter of this number: what `new` gives to it, or else its default
abbrev pub value_for_parameter : List GivenValue → Shape → ℕ → Option WrittenValue
value_for_parameter gs inner p = option_or (given_to gs p) (default_written inner p)
