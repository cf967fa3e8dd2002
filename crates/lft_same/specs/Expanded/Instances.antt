-- The instances of a whole program: the values of their parameters, and banks and multiports.
use Rattle.std.specs.Prelude.{ℕ, ◌++◌, ℤ, pos, neg_ℤ, true, false, List, [], ◌∷◌, Option, Some, None, find, flat_map, if◌then◌else◌, map, option_map, position, slice_get, string_bytes}
use Rattle.std.specs.{List.enumerate_from, Option.{option_and_then, option_map_or}}
use Rattle.lft_elaborate.specs.{Channels.Channels.below, Names.tail, Values.is_forever}
use Rattle.lft_classes.specs.Shapes.{name_of, width_of}
use Rattle.lft_whole.specs.declared.sources.source.SourceFile.{SourceFile}
use Rattle.lft_whole.specs.declared.tree.{Assignment.Assignment, Expression.Expression, Instance.Instance, Member.Member, Parameter.Parameter}
use Rattle.lft_whole.specs.declared.tree.{WrittenValue.WrittenValue, Width.Width}
use Rattle.lft_tree.specs.Tree.{nanoseconds}
use Rattle.lft_same.specs.Expanded.Reactors.{Class, class_named, is_named, members_of, parameters_of}
use Rattle.lft_whole.specs.declared.tree.Member.TheVariants as member
use Rattle.lft_whole.specs.declared.tree.WrittenValue.TheVariants as value

-- ---- parameters

-- an instance: its reactor, and of each parameter the value, if it has one
pub record Inside : Type 0 where
  pub class : Class
  pub values : List (Option WrittenValue)

-- the value of the parameter of this name
abbrev pub value_by_name : List Parameter → List (Option WrittenValue) → List ℕ → Option WrittenValue
value_by_name [] vs q = None
value_by_name (p ∷ ps) [] q = None
value_by_name (p ∷ ps) (v ∷ vs) q = if is_named q p.name then v else value_by_name ps vs q

-- the value that the parameter of this name has in an instance
abbrev pub value_named : List SourceFile → Inside → List ℕ → Option WrittenValue
value_named files x q = value_by_name (parameters_of files x.class) x.values q

-- a value, read in an instance: that of a parameter, if it is the name of one
abbrev pub read_in : List SourceFile → Inside → WrittenValue → Option WrittenValue
read_in files x (value.Word q) = value_named files x (string_bytes q)
read_in files x v = Some v

-- the default of a parameter
abbrev pub default_of : Parameter → Option WrittenValue
default_of p = option_map (λ e. e.value) p.default

-- what `new` gives to a parameter, read in the instance around; else its default
abbrev pub value_or_default : List SourceFile → Inside → Parameter → Option Assignment → Option WrittenValue
value_or_default files outer p None = default_of p
value_or_default files outer p (Some a) = read_in files outer a.value.value

-- the value of a parameter of an instance to which `new` gives these
abbrev pub value_given_in : List SourceFile → Inside → List Assignment → Parameter → Option WrittenValue
value_given_in files outer given p = value_or_default files outer p (find (λ a. is_named (string_bytes p.name.text) a.name) given)

-- the instance that a `new` in a file makes
abbrev pub inside_of : List SourceFile → Inside → ℕ × Instance → Option Inside
inside_of files outer (file, i) = option_map (λ c. record { class = c; values = map (value_given_in files outer i.given.items) (parameters_of files c) }) (class_named files file (string_bytes i.reactor.text))

-- the main instance: its parameters have their defaults
abbrev pub main_class_instance : List SourceFile → Class → Inside
main_class_instance files c = record { class = c; values = map default_of (parameters_of files c) }

-- the whole number that a value is
abbrev pub number_of : WrittenValue → Option ℤ
number_of (value.Number true n None) = Some (neg_ℤ (pos n))
number_of (value.Number false n None) = Some (pos n)
number_of v = None

-- the time that a value is, in nanoseconds
abbrev pub time_of : WrittenValue → ℕ
time_of (value.Number negative n unit) = nanoseconds (record { count = n; unit = unit })
time_of v = 0

-- a time as it is written, read in an instance; one that is left out is 0
abbrev pub time_written_in : List SourceFile → Inside → Option Expression → ℕ
time_written_in files x None = 0
time_written_in files x (Some e) = option_map_or time_of (read_in files x e.value) 0

-- the period of a timer, read in an instance
abbrev pub period_in : List SourceFile → Inside → Option Expression → ℕ
period_in files x None = 0
period_in files x (Some e) = if is_forever e.value then 0 else time_written_in files x (Some e)

-- ---- banks and multiports

-- of each instance how wide its members are, by their places
abbrev pub Widths : Type 0
Widths = Inside → ℕ → ℕ

-- the numbers of what a member is: of a bank and a multiport from 0 on; all else is one, without a number
abbrev pub numbers : Option Width → ℕ → List (Option ℕ)
numbers None n = None ∷ []
numbers (Some width) n = map Some (below n)

-- how it is written: `b`, or `b[2]`
abbrev pub name_with_number : List ℕ → Option ℕ → List ℕ
name_with_number q n = q ++ tail n

-- the place of the member of this name
abbrev pub place_named : List SourceFile → Inside → List ℕ → Option ℕ
place_named files x q = position (λ m. option_map_or (is_named q) (name_of m.1) false) (members_of files x.class)

-- the numbers of the member at a place
abbrev pub numbers_at : List SourceFile → Widths → Inside → ℕ → List (Option ℕ)
numbers_at files w x k = option_map_or (λ m. numbers (width_of m.1) (w x k)) (slice_get (members_of files x.class) k) (None ∷ [])

-- the numbers of the member of this name
abbrev pub numbers_named : List SourceFile → Widths → Inside → List ℕ → List (Option ℕ)
numbers_named files w x q = option_map_or (numbers_at files w x) (place_named files x q) (None ∷ [])

-- an instance in an instance: its name with its number, and its `new` with the number of the file where it stands
pub record Inner : Type 0 where
  pub name : List ℕ
  pub new : ℕ × Instance

-- the instances that the member at a place is
abbrev pub inners_at : Widths → Inside → ℕ × (ℕ × Member) → List Inner
inners_at w x (k, (file, member.Instance i)) = map (λ n. record { name = name_with_number (string_bytes i.name.text) n; new = (file, i) }) (numbers i.width (w x k))
inners_at w x m = []

-- the instances in an instance, in order of declaration, a bank's in order of their numbers
abbrev pub inners : List SourceFile → Widths → Inside → List Inner
inners files w x = flat_map (inners_at w x) (enumerate_from 0 (members_of files x.class))

-- the instance at a place among them
abbrev pub entered_instance : List SourceFile → Widths → Inside → ℕ → Option Inside
entered_instance files w x k = option_and_then (λ i. inside_of files x i.new) (slice_get (inners files w x) k)
