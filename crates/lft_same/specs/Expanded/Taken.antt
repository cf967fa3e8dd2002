-- What is taken: all that an instance of a whole program has is something. The rest of the language is refused.
use Rattle.std.specs.Prelude.{◌≡◌, ◌≢◌, ◌≤◌, ◌⊎◌, ℕ, zero, suc, true, false, is_some, IfSome, IsSomeAnd, List, [], Option, Some, None, codes, find, map, option_map, slice_get, string_bytes, unwrap_or}
use Rattle.std.specs.{List.All, Option.option_and_then}
use Rattle.lft_resolve.specs.Causes.{longest}
use Rattle.lft_tree.specs.Tree.{nanoseconds}
use Rattle.lft_elaborate.specs.Values.{is_forever}
use Rattle.lft_classes.specs.{Needs.{Gives, NamedFor, Need}, Shapes.{name_of, width_of}}
use Rattle.lft_whole.specs.declared.sources.source.SourceFile.{SourceFile}
use Rattle.lft_whole.specs.declared.tree.{Assignment.Assignment, Effect.Effect, Expression.Expression, Import.Import, ImportedName.ImportedName}
use Rattle.lft_whole.specs.declared.tree.{Instance.Instance, Member.Member, Reaction.Reaction, Reactor.Reactor, Reference.Reference, Trigger.Trigger}
use Rattle.lft_whole.specs.declared.tree.{Width.Width, WrittenValue.WrittenValue}
use Rattle.lft_same.specs.Expanded.Instances.{Inside, Widths, inside_of, numbers, place_named, read_in}
use Rattle.lft_same.specs.Expanded.Reactors.{Class, class_named, is_named, main_of, members_of, own_class, parameters_of, reactor_of}
use Rattle.lft_same.specs.Expanded.Whole.{LeadsToInstance, inside_named, links_of, term_of_width, total_width}
use Rattle.lft_whole.specs.declared.tree.Effect.TheVariants as effect
use Rattle.lft_whole.specs.declared.tree.Member.TheVariants as member
use Rattle.lft_whole.specs.declared.tree.Trigger.TheVariants as trigger
use Rattle.lft_whole.specs.declared.tree.WrittenValue.TheVariants as value

-- the reactor of an instance has a parameter of this name
abbrev pub HasParameter : List SourceFile → Inside → List ℕ → Type 0
HasParameter files x q = is_some (find (λ p. is_named q p.name) (parameters_of files x.class)) ≡ true

-- the reactor has a member or a parameter of this name; or an instance of that name, and that one a port of this one
abbrev pub IsNamed : List SourceFile → Inside → List ℕ → Option (List ℕ) → Type 0
IsNamed files x q None = (is_some (place_named files x q) ≡ true) ⊎ HasParameter files x q
IsNamed files x b (Some p) = IsSomeAnd (inside_named files x b) (λ y. is_some (place_named files y p) ≡ true)

-- what a reference names is there
abbrev pub IsThere : List SourceFile → Inside → Reference → Type 0
IsThere files x r = IsNamed files x (string_bytes r.head.text) (option_map (λ p. string_bytes p.text) r.port)

-- a trigger isn't of a mode
abbrev pub IsTrigger : List SourceFile → Inside → Trigger → Type 0
IsTrigger files x (trigger.Reset at) = ⊥
IsTrigger files x (trigger.Reference r) = IsThere files x r
IsTrigger files x t = Unit {0}

-- nor an effect
abbrev pub IsEffect : List SourceFile → Inside → Effect → Type 0
IsEffect files x (effect.Mode at) = ⊥
IsEffect files x (effect.Reference r) = IsThere files x r

-- a reaction has a trigger
pub record IsReaction (files : List SourceFile) (x : Inside) (r : Reaction) : Type 0 where
  pub written : r.triggers.items ≢ []
  pub triggers : All (IsTrigger files x) r.triggers.items
  pub uses : All (IsThere files x) r.uses.items
  pub effects : All (IsEffect files x) r.effects.items

-- a value is a time: a whole number with a unit, or 0, and not past the greatest
abbrev pub IsTimeValue : WrittenValue → Type 0
IsTimeValue (value.Number false n (Some unit)) = nanoseconds (record { count = n; unit = Some unit }) ≤ longest
IsTimeValue (value.Number false zero None) = Unit {0}
IsTimeValue v = ⊥

-- a time that is written is one, read in an instance
abbrev pub IsTimeIn : List SourceFile → Inside → Option Expression → Type 0
IsTimeIn files x o = IfSome o (λ e. IsSomeAnd (read_in files x e.value) IsTimeValue)

-- a period is one, or `forever`
abbrev pub IsPeriodIn : List SourceFile → Inside → Option Expression → Type 0
IsPeriodIn files x o = IfSome o (λ e. is_forever e.value ≡ false → IsTimeIn files x (Some e))

-- a value is 0
abbrev pub IsZero : WrittenValue → Type 0
IsZero (value.Number negative zero unit) = Unit {0}
IsZero v = ⊥

-- a least spacing is 0, where one is written
abbrev pub IsNoSpacing : Option Expression → Type 0
IsNoSpacing o = IfSome o (λ e. IsZero e.value)

-- each value is given to a parameter of the instance, and each parameter is given one
pub record AreGivenTo (files : List SourceFile) (given : List Assignment) (y : Inside) : Type 0 where
  pub known : (k : ℕ) (a : Assignment) → slice_get given k ≡ Some a → HasParameter files y (string_bytes a.name.text)
  pub once : (j k : ℕ) (a b : Assignment) → slice_get given j ≡ Some a → slice_get given k ≡ Some b → string_bytes a.name.text ≡ string_bytes b.name.text → j ≡ k

-- the member at a place isn't a mode, a mutation or a watchdog; what it names is there, in an instance also its reactor; a connection isn't physical, and a logical action has no least spacing
abbrev pub IsMember : List SourceFile → Widths → Inside → ℕ → ℕ × Member → Type 0
IsMember files w x k (file, member.Port p) = Unit {0}
IsMember files w x k (file, member.Timer t) = Unit {0}
IsMember files w x k (file, member.Action a) = a.is_physical ≡ false → IsNoSpacing a.spacing
IsMember files w x k (file, member.Reaction r) = IsReaction files x r
IsMember files w x k (file, member.Instance i) = numbers i.width (w x k) ≢ [] → IsSomeAnd (inside_of files x (file, i)) (AreGivenTo files i.given.items)
IsMember files w x k (file, member.Connection c) = (c.is_physical ≡ false) × All (IsThere files x) c.sources.items × All (IsThere files x) c.destinations.items
IsMember files w x k (file, member.Foreign what at) = ⊥

-- its times are times, also that of a connection which joins something
abbrev pub HasTimes : List SourceFile → Widths → Inside → Member → Type 0
HasTimes files w x (member.Timer t) = IsTimeIn files x t.offset × IsPeriodIn files x t.period
HasTimes files w x (member.Action a) = IsTimeIn files x a.min_delay
HasTimes files w x (member.Connection c) = links_of files w [] x c ≢ [] → IsTimeIn files x c.delay
HasTimes files w x m = Unit {0}

-- the reactor needs its parameter of this name: a member names it, or an instance gives it to one that its reactor needs
pub data Needs (files : List SourceFile) (need : Need) : Class → List ℕ → Type 0 where
  by_member : {c : Class} {q : List ℕ} (k : ℕ) (m : ℕ × Member) → slice_get (members_of files c) k ≡ Some m → NamedFor need m.1 q → Needs files need c q
  by_instance : {c d : Class} {p q : List ℕ} (k file : ℕ) (i : Instance) → slice_get (members_of files c) k ≡ Some (file, member.Instance i) → class_named files file (string_bytes i.reactor.text) ≡ Some d → Gives i p q → Needs files need d p → Needs files need c q

-- no width and no time needs a parameter `bank_index`, which differs in the instances of a bank
abbrev pub IsIndexFree : List SourceFile → Inside → Type 0
IsIndexFree files y = HasParameter files y (codes "bank_index") → (need : Need) → Needs files need y.class (codes "bank_index") → ⊥

-- two members of a reactor have two names
abbrev pub HasNamesApart : List SourceFile → Inside → Type 0
HasNamesApart files x = (j k : ℕ) (a b : ℕ × Member) (q : List ℕ) → slice_get (members_of files x.class) j ≡ Some a → slice_get (members_of files x.class) k ≡ Some b → option_map (λ n. string_bytes n.text) (name_of a.1) ≡ Some q → option_map (λ n. string_bytes n.text) (name_of b.1) ≡ Some q → j ≡ k

-- an instance has such members, with such times, and such banks
pub record IsTakenInside (files : List SourceFile) (w : Widths) (x : Inside) : Type 0 where
  pub members : (k : ℕ) (m : ℕ × Member) → slice_get (members_of files x.class) k ≡ Some m → IsMember files w x k m
  pub times : (k : ℕ) (m : ℕ × Member) → slice_get (members_of files x.class) k ≡ Some m → HasTimes files w x m.1
  pub banks : (k file : ℕ) (i : Instance) (y : Inside) → slice_get (members_of files x.class) k ≡ Some (file, member.Instance i) → is_some i.width ≡ true → inside_of files x (file, i) ≡ Some y → IsIndexFree files y
  pub apart : HasNamesApart files x

-- the width of the member at a place, where these are the widths of others
abbrev pub next_width : List SourceFile → Widths → Inside → ℕ → ℕ
next_width files w x m = unwrap_or (option_and_then (λ (y : ℕ × Member). option_and_then (λ (width : Width). total_width (map (λ z. term_of_width files w x z.count) width.terms.items)) (width_of y.1)) (slice_get (members_of files x.class) m)) 0

-- the widths that are found in so many steps, where these are there to begin with
abbrev pub widths_from : List SourceFile → Widths → ℕ → Widths
widths_from files v zero x m = v x m
widths_from files v (suc d) x m = next_width files (widths_from files v d) x m

-- no width hangs on itself: in so many steps these are found, whatever widths there are to begin with
abbrev pub AreFoundInSteps : List SourceFile → Widths → Type 0
AreFoundInSteps files w = (depth : ℕ) × ((v : Widths) (path : List ℕ) (x : Inside) (k : ℕ) (m : ℕ × Member) (width : Width) → LeadsToInstance files w path x → slice_get (members_of files x.class) k ≡ Some m → width_of m.1 ≡ Some width → widths_from files v depth x k ≡ w x k)

-- a federation isn't decentralized
abbrev pub IsCentral : List SourceFile → Type 0
IsCentral files = IsSomeAnd (slice_get files 0) (λ f. IsSomeAnd (option_and_then (reactor_of files) (main_of files)) (λ main. main.is_federated ≡ true → f.tree.decentralized ≡ None))

-- the first file has one main reactor at most
abbrev pub HasOneMain : List SourceFile → Type 0
HasOneMain files = (f : SourceFile) (j k : ℕ) (a b : Reactor) → slice_get files 0 ≡ Some f → slice_get f.tree.reactors.items j ≡ Some a → slice_get f.tree.reactors.items k ≡ Some b → a.is_main ≡ true → b.is_main ≡ true → j ≡ k

-- where a file imports a reactor by its name, the other file has one of that name
abbrev pub HasImports : List SourceFile → Type 0
HasImports files = (file other k j : ℕ) (f : SourceFile) (what : Import) (name : ImportedName) → slice_get files file ≡ Some f → slice_get f.tree.imports.items k ≡ Some what → slice_get f.imports.items k ≡ Some other → slice_get what.names.items j ≡ Some name → is_some (own_class files other (string_bytes name.name.text)) ≡ true

-- all that the instances of the program have is something
pub record IsTaken (files : List SourceFile) (w : Widths) : Type 0 where
  pub inside : (path : List ℕ) (x : Inside) → LeadsToInstance files w path x → IsTakenInside files w x
  pub steps : AreFoundInSteps files w
  pub central : IsCentral files
  pub one_main : HasOneMain files
  pub imports : HasImports files
