-- What reactors inherit.
use Rattle.std.specs.Prelude.{◌≡◌, ◌≢◌, ◌↔◌, ℕ, List, [], Option, Some, None, Contains, length, map, flat_map, option_map, slice_get, string_bytes}
use Rattle.std.specs.List.Sorted.{IsNonDecreasingBy}
use Rattle.lft_whole.specs.declared.tree.{Assignment.Assignment, Foreign.Foreign, Instance.Instance, Member.Member, Name.Name, Parameter.Parameter}
use Rattle.lft_classes.specs.declared.scopes.{Class.Class, ReactorNames.ReactorNames}
use Rattle.lft_classes.specs.declared.shapes.{Child.Child, GivenValue.GivenValue, Inherited.Inherited, InheritedParameter.InheritedParameter, Shape.Shape}
use Rattle.lft_classes.specs.declared.shapes.OwnThing.{OwnThing}
use Rattle.lft_classes.specs.inner.{Chains.{IsChain, extended_reactor}, Circles.GivesOnce, Scopes.class_at, Shapes.{child_in, inside, thing_named}}
use Rattle.lft_classes.specs.Shapes.{name_of}
use Rattle.lft_whole.specs.declared.tree.Member.TheVariants as member
use Rattle.lft_classes.specs.declared.shapes.OwnThing.TheVariants as thing

-- members with the numbers of their files
abbrev pub located : List Inherited → List (ℕ × Member)
located ms = map (λ m. (m.file, m.member.now)) ms

-- parameters with the numbers of their files
abbrev pub located_parameters : List InheritedParameter → List (ℕ × Parameter)
located_parameters ps = map (λ p. (p.file, p.parameter.now)) ps

-- the members that a reactor declares
abbrev pub declared_members : Class → List (ℕ × Member)
declared_members c = map (λ m. (c.file, m)) c.reactor.now.members.items

-- the parameters that a reactor declares
abbrev pub declared_parameters : Class → List (ℕ × Parameter)
declared_parameters c = map (λ p. (c.file, p)) c.reactor.now.parameters.items

-- the members that a reactor declares, if there is one
abbrev pub members_or_none : Option Class → List (ℕ × Member)
members_or_none None = []
members_or_none (Some c) = declared_members c

-- the parameters that a reactor declares, if there is one
abbrev pub parameters_or_none : Option Class → List (ℕ × Parameter)
parameters_or_none None = []
parameters_or_none (Some c) = declared_parameters c

-- the members that the reactor of this number declares
abbrev pub members_at : ReactorNames → ℕ → List (ℕ × Member)
members_at scopes r = members_or_none (class_at scopes r)

-- the parameters that the reactor of this number declares
abbrev pub parameters_at : ReactorNames → ℕ → List (ℕ × Parameter)
parameters_at scopes r = parameters_or_none (class_at scopes r)

-- a reactor, the members and parameters that are listed of it, and what names are
pub record Core : Type 0 where
  pub class : Class
  pub members : List Inherited
  pub parameters : List InheritedParameter
  pub things : List ℕ → Option OwnThing

-- those of a shape
abbrev pub core : Shape → Core
core shape = record { class = shape.class; members = shape.members.items; parameters = shape.parameters.items; things = thing_named shape }

-- those of each shape
abbrev pub cores : List Shape → List Core
cores shapes = map core shapes

-- the parameter or member has the name
abbrev pub HasName : List InheritedParameter → List Inherited → List ℕ → OwnThing → Type 0
HasName ps ms q (thing.Parameter n) = (p : InheritedParameter) × (slice_get ps n ≡ Some p) × (string_bytes p.parameter.now.name.text ≡ q)
HasName ps ms q (thing.Member n) = (m : Inherited) × (slice_get ms n ≡ Some m) × (option_map (λ (name : Name). string_bytes name.text) (name_of m.member.now) ≡ Some q)

-- no member is a mode, a mutation or a watchdog
abbrev pub HasNoForeign : List Inherited → Type 0
HasNoForeign ms = (k : ℕ) (m : Inherited) → slice_get ms k ≡ Some m → (what : Foreign) (at : ℕ) → m.member.now ≢ member.Foreign what at

-- The members and parameters are those of all that the reactor extends and of itself, one reactor after another, a first base before a second. A name is the parameter or member that has it. No member is a mode, a mutation or a watchdog.
pub record IsBuilt (scopes : ReactorNames) (c : Core) : Type 0 where
  pub chain : List ℕ
  pub extends : IsChain scopes c.class.number chain
  pub has_members : located c.members ≡ flat_map (members_at scopes) chain
  pub has_parameters : located_parameters c.parameters ≡ flat_map (parameters_at scopes) chain
  pub has_no_foreign : HasNoForeign c.members
  pub has_names : (q : List ℕ) (t : OwnThing) → (c.things q ≡ Some t) ↔ HasName c.parameters c.members q t

-- so it is of each one
abbrev pub AreBuilt : ReactorNames → List Core → Type 0
AreBuilt scopes cs = (i : ℕ) (c : Core) → slice_get cs i ≡ Some c → IsBuilt scopes c

-- the reactor of the first one
abbrev pub first_class : List Core → Option Class
first_class cs = option_map (λ c. c.class) (slice_get cs 0)

-- the number of the reactor of which a member of the file is an instance
abbrev pub instance_of : ReactorNames → ℕ × Member → Option ℕ
instance_of scopes (file, member.Instance instance) = extended_reactor scopes file instance.reactor
instance_of scopes _ = None

-- what is written is given to the parameter that has the name
abbrev pub IsOf : (List ℕ → Option OwnThing) → Assignment → GivenValue → Type 0
IsOf things a g = (things (string_bytes a.name.text) ≡ Some (thing.Parameter g.parameter)) × (g.value.now ≡ a.value)

-- what is given is what is written, all of it once, in the order of the parameters
pub record AreGiven (things : List ℕ → Option OwnThing) (written : List Assignment) (given : List GivenValue) : Type 0 where
  pub count : length given ≡ length written
  pub in_order : IsNonDecreasingBy (λ g. g.parameter) given
  pub each : (g : GivenValue) → Contains given g → (a : Assignment) × Contains written a × IsOf things a g
  pub all : (a : Assignment) → Contains written a → (g : GivenValue) × Contains given g × IsOf things a g

-- an instance gives each parameter one value at most, and these are noted
abbrev pub NotesGiven : (List ℕ → Option OwnThing) → Member → List GivenValue → Type 0
NotesGiven things m given = (instance : Instance) → m ≡ member.Instance instance → GivesOnce instance.given.items × AreGiven things instance.given.items given

-- the member of that number of that reactor is an instance of the reactor of the child's shape, and gives its parameters what the child has
pub record IsChildInstance (scopes : ReactorNames) (cs : List Core) (s k : ℕ) (child : Child) : Type 0 where
  pub outer : Core
  pub is_outer : slice_get cs s ≡ Some outer
  pub member : Inherited
  pub is_member : slice_get outer.members k ≡ Some member
  pub inner : Core
  pub is_inner : slice_get cs child.shape ≡ Some inner
  pub means : instance_of scopes (member.file, member.member.now) ≡ Some inner.class.number
  pub gives : NotesGiven inner.things member.member.now child.given.items

-- so it is wherever a shape is noted
abbrev pub AreInside : ReactorNames → List Core → List (List (Option Child)) → Type 0
AreInside scopes cs rows = (s k : ℕ) (child : Child) → child_in rows s k ≡ Some child → IsChildInstance scopes cs s k child

-- in each instance of the reactor of that number a shape is noted
abbrev pub IsNoted : ReactorNames → List (List (Option Child)) → ℕ → Core → Type 0
IsNoted scopes rows s c = (k n : ℕ) (m : Inherited) → slice_get c.members k ≡ Some m → instance_of scopes (m.file, m.member.now) ≡ Some n → (t : ℕ) × (inside rows s k ≡ Some t)

-- so it is of each reactor
abbrev pub AreNoted : ReactorNames → List Core → List (List (Option Child)) → Type 0
AreNoted scopes cs rows = (s : ℕ) (c : Core) → slice_get cs s ≡ Some c → IsNoted scopes rows s c
