-- Why a reference means nothing, and there is no setting in an instance or no width of a member.
use Rattle.std.specs.Prelude.{◌≡◌, ◌⊎◌, ℕ, ℤ, List, IsSomeAnd, Option, Some, None, option_map, string_bytes}
use Rattle.std.specs.Option.{option_and_then}
use Rattle.lft_whole.specs.declared.sources.{stop.{FileRefusal.FileRefusal, NoProgram.NoProgram}, why.Why.Why}
use Rattle.lft_whole.specs.declared.tree.{Reference.Reference, WrittenValue.WrittenValue}
use Rattle.lft_classes.specs.{declared.shapes.{Shape.Shape, OwnThing.OwnThing}, inner.Shapes.thing_named}
use Rattle.lft_elaborate.specs.{inner.{Meanings.{port_number_in, shape_inside}, Places.parameter_in, Values.Valued}, Places.natural}
use Rattle.lft_classes.specs.declared.shapes.OwnThing.TheVariants as things
use Rattle.lft_whole.specs.declared.sources.stop.NoProgram.TheVariants as stop
use Rattle.lft_whole.specs.declared.sources.why.Why.TheVariants as why

-- if memory didn't run out, the refusal is such a one
abbrev pub IfRefused : (FileRefusal → Type 0) → NoProgram → Type 0
IfRefused Is (stop.Refused refusal) = Is refusal
IfRefused Is stop.NoMemory = Unit {0}

-- it is of this token of this file
abbrev pub IsAt : ℕ → ℕ → FileRefusal → Type 0
IsAt file token r = r.place ≡ record { file = file; token = token }

-- nothing is written for a number, or what is written is no whole number
abbrev pub HasNoWholeNumber : Option WrittenValue → Why → Type 0
HasNoWholeNumber None w = w ≡ why.MissingNumber
HasNoWholeNumber (Some value) w = w ≡ why.NoWholeNumber

-- the refusal is of a term that is a word: no parameter whose number is known has this name, or the number is below 0
abbrev pub IsOfWord : List Shape → Valued → ℕ → ℕ → List ℕ → FileRefusal → Type 0
IsOfWord shapes t file at word r = IsAt file at r × (((r.why ≡ why.UnknownParameter) × (parameter_in shapes t word ≡ None)) ⊎ ((r.why ≡ why.NegativeWidth) × IsSomeAnd (parameter_in shapes t word) (λ n. natural n ≡ None)))

-- ---- references

-- the shape of the instance that a thing is
abbrev pub shape_behind : List Shape → Shape → OwnThing → Option Shape
shape_behind shapes shape (things.Member n) = shape_inside shapes shape n
shape_behind shapes shape (things.Parameter n) = None

-- there is no instance, or it has no port of the name
abbrev pub IsNoPort : Option Shape → List ℕ → Why → Type 0
IsNoPort None port w = w ≡ why.UnknownInstance
IsNoPort (Some shape) port w = (w ≡ why.UnknownPort) × (port_number_in shape port ≡ None)

-- what stands there means nothing: there is no thing of the name, or no port of the instance of the name
abbrev pub IsUnknown : List Shape → Shape → List ℕ → Option (List ℕ) → Why → Type 0
IsUnknown shapes shape head None w = (w ≡ why.UnknownName) × (thing_named shape head ≡ None)
IsUnknown shapes shape head (Some port) w = IsNoPort (option_and_then (shape_behind shapes shape) (thing_named shape head)) port w

-- the refusal is of a reference that means nothing
abbrev pub IsUnmeant : List Shape → Shape → ℕ → Reference → FileRefusal → Type 0
IsUnmeant shapes shape file r refusal = IsAt file r.head.at refusal × IsUnknown shapes shape (string_bytes r.head.text) (option_map (λ name. string_bytes name.text) r.port) refusal.why

-- ---- for the crate's own contracts

-- the refusal says that nothing is written for a number, or that this is no whole one
abbrev pub SaysNoNumber : Option WrittenValue → NoProgram → Type 0
SaysNoNumber value = IfRefused (λ r. HasNoWholeNumber value r.why)

-- so it says of this number, and there is none
abbrev pub IsLacking : Option ℤ → Option WrittenValue → NoProgram → Type 0
IsLacking number value s = SaysNoNumber value s × (number ≡ None)
