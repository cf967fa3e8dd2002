-- Inside: what the names of reactors mean in each file.
use Rattle.std.specs.Prelude.{◌≡◌, ℕ, ◌⊎◌, true, false, List, Option, Some, flat_map, map, option_map, slice_get, string_bytes, length, take}
use Rattle.std.specs.{List.enumerate_from, Option.option_and_then}
use Rattle.lft_resolve.specs.inner.Places.{place_in, IsIndexOf}
use Rattle.lft_whole.specs.declared.{tree.{Import.Import, ImportedName.ImportedName, Reactor.Reactor}, sources.{source.SourceFile.SourceFile, stop.Place.Place}}
use Rattle.lft_classes.specs.declared.scopes.{Class.Class, Scope.Scope, ReactorNames.ReactorNames, NamedReactor.NamedReactor}

-- the reactor that the name means in the scope
abbrev pub in_scope : Scope → List ℕ → Option Class
in_scope scope q = option_map (λ m. m.class) (option_and_then (slice_get scope.meanings.items) (place_in scope.names q))

-- the reactor that the name means in the file of this number
abbrev pub meaning_in : ReactorNames → ℕ → List ℕ → Option Class
meaning_in scopes file q = option_and_then (λ scope. in_scope scope q) (slice_get scopes.scopes.items file)

-- the reactor of this number
abbrev pub class_at : ReactorNames → ℕ → Option Class
class_at scopes number = slice_get scopes.classes.items number

-- the name of a reactor, if it has one
abbrev pub name_in : Class → Option (List ℕ)
name_in c = option_map (λ n. string_bytes n.text) c.reactor.now.name

-- the reactors of a file, with its number
abbrev pub reactors_of_file : ℕ × SourceFile → List (ℕ × Reactor)
reactors_of_file f = map (λ r. (f.0, r)) f.1.tree.reactors.items

-- the reactors of the files, with the numbers of these
abbrev pub reactors_in : List SourceFile → List (ℕ × Reactor)
reactors_in files = flat_map reactors_of_file (enumerate_from 0 files)

-- the reactor stands in its file, and has its number among those of all files
abbrev pub IsOf : List SourceFile → Class → Type 0
IsOf files c = slice_get (reactors_in files) c.number ≡ Some (c.file, c.reactor.now)

-- reactors with the numbers of their files
abbrev pub placed : List Class → List (ℕ × Reactor)
placed classes = map (λ c. (c.file, c.reactor.now)) classes

-- the number of each is its place
abbrev pub AreNumberedClasses : List Class → Type 0
AreNumberedClasses classes = (i : ℕ) (c : Class) → slice_get classes i ≡ Some c → c.number ≡ i

-- the reactor stands in the file of this number, under this name
pub record IsOwn (files : List SourceFile) (file : ℕ) (q : List ℕ) (c : Class) : Type 0 where
  pub stands : IsOf files c
  pub in_file : c.file ≡ file
  pub has_name : name_in c ≡ Some q

-- the file has this import, of the other file
pub record IsImport (files : List SourceFile) (file other : ℕ) (what : Import) : Type 0 where
  pub here : SourceFile
  pub is_here : slice_get files file ≡ Some here
  pub place : ℕ
  pub is_written : slice_get here.tree.imports.items place ≡ Some what
  pub is_read : slice_get here.imports.items place ≡ Some other

-- an import of the file gives this name to a reactor that stands in the other file under the name that is imported, and isn't a main one
pub record IsImported (files : List SourceFile) (file : ℕ) (q : List ℕ) (c : Class) : Type 0 where
  pub other : ℕ
  pub what : Import
  pub is_import : IsImport files file other what
  pub place : ℕ
  pub name : ImportedName
  pub is_among : slice_get what.names.items place ≡ Some name
  pub alias : string_bytes name.alias.text ≡ q
  pub is_there : IsOwn files other (string_bytes name.name.text) c
  pub is_not_main : c.reactor.now.is_main ≡ false

-- the name means a reactor of the file, or one that it imports
abbrev pub IsMeant : List SourceFile → ℕ → List ℕ → Class → Type 0
IsMeant files file q c = IsOwn files file q c ⊎ IsImported files file q c

-- the number of the reactor that the name means in the file
abbrev pub number_in : ReactorNames → ℕ → List ℕ → Option ℕ
number_in scopes file q = option_map (λ c. c.number) (meaning_in scopes file q)

-- imports can have the reactor from the file under this name
abbrev pub IsExported : List SourceFile → ℕ → List ℕ → Class → Type 0
IsExported files file q c = IsOwn files file q c × (c.reactor.now.is_main ≡ false)

-- The reactors are those of the files, in order. What a name means in a file is what it may mean there, and it may mean no other reactor. For each name that is imported the other file has a reactor.
pub record AreScopes (files : List SourceFile) (scopes : ReactorNames) : Type 0 where
  pub reactors : placed scopes.classes.items ≡ reactors_in files
  pub numbers : AreNumberedClasses scopes.classes.items
  pub meanings : (file : ℕ) (q : List ℕ) (c : Class) → meaning_in scopes file q ≡ Some c → IsMeant files file q c
  pub once : (file : ℕ) (q : List ℕ) (c : Class) → IsMeant files file q c → number_in scopes file q ≡ Some c.number
  pub imports : (file other : ℕ) (what : Import) (which : ℕ) (name : ImportedName) → IsImport files file other what → slice_get what.names.items which ≡ Some name → (c : Class) × IsExported files other (string_bytes name.name.text) c

-- where a reactor begins
abbrev pub begins_at : Class → Place
begins_at c = record { file = c.file; token = c.reactor.now.at }

-- the reactor of this number is a main one of the first file
pub record IsMainClassAt (scopes : ReactorNames) (number : ℕ) (c : Class) : Type 0 where
  pub is_known : class_at scopes number ≡ Some c
  pub in_first_file : c.file ≡ 0
  pub is_main : c.reactor.now.is_main ≡ true

-- the main reactor of the first file, which has no other one
pub record IsMain (scopes : ReactorNames) (c : Class) : Type 0 where
  pub number : ℕ
  pub is_there : IsMainClassAt scopes number c
  pub alone : (other : ℕ) (d : Class) → IsMainClassAt scopes other d → other ≡ number

-- the reactors of the files before this one, with the numbers of these
abbrev pub reactors_before : List SourceFile → ℕ → List (ℕ × Reactor)
reactors_before files n = flat_map reactors_of_file (take n (enumerate_from 0 files))

-- the name means the class in the file, and the token says it: that at which the reactor begins, or that of the name that the import gives
abbrev pub MeansAt : List SourceFile → ℕ → List ℕ → Class → ℕ → Type 0
MeansAt files file q c at = (IsOwn files file q c × (at ≡ c.reactor.now.at)) ⊎ ((is : IsImported files file q c) × (at ≡ is.name.alias.at))

-- ---- for the crate's own contracts
-- the reactor stands in the file under this name, and begins at the token
abbrev pub IsOwnAt : List SourceFile → ℕ → List ℕ → Class → ℕ → Type 0
IsOwnAt files file q c at = IsOwn files file q c × (at ≡ c.reactor.now.at)

-- such a meaning is each one
abbrev pub EachMeans : (List ℕ → Class → ℕ → Type 0) → List NamedReactor → Type 0
EachMeans P ms = (i : ℕ) (m : NamedReactor) → slice_get ms i ≡ Some m → P m.name.now m.class m.at

-- the reactor of this number is a meaning of the name
abbrev pub HasMeaning : List NamedReactor → List ℕ → ℕ → Type 0
HasMeaning ms q n = (i : ℕ) × ((m : NamedReactor) × (slice_get ms i ≡ Some m) × (m.name.now ≡ q) × (m.class.number ≡ n))

-- each reactor of the file is a meaning of its name
abbrev pub HasOwn : List SourceFile → ℕ → List NamedReactor → Type 0
HasOwn files file ms = (q : List ℕ) (c : Class) → IsOwn files file q c → HasMeaning ms q c.number

-- a reactor that can be imported from the other file is a meaning of the name that the import gives
abbrev pub IsGiven : List SourceFile → ℕ → ImportedName → List NamedReactor → Type 0
IsGiven files other name ms = (c : Class) × IsExported files other (string_bytes name.name.text) c × HasMeaning ms (string_bytes name.alias.text) c.number

-- so it is of each name that the file imports
abbrev pub HasImports : List SourceFile → ℕ → List NamedReactor → Type 0
HasImports files file ms = (other : ℕ) (what : Import) (which : ℕ) (name : ImportedName) → IsImport files file other what → slice_get what.names.items which ≡ Some name → IsGiven files other name ms

-- the scope has these meanings, by name
pub record IsScopeOf (ms : List NamedReactor) (scope : Scope) : Type 0 where
  pub names : IsIndexOf scope.names (map (λ m. m.name.now) ms)
  pub meanings : scope.meanings.items ≡ ms

-- the scope has such meanings alone, by name
pub record IsScope (P : List ℕ → Class → ℕ → Type 0) (scope : Scope) : Type 0 where
  pub names : IsIndexOf scope.names (map (λ m. m.name.now) scope.meanings.items)
  pub each : EachMeans P scope.meanings.items

-- each meaning of a name is the one that the scope gives
abbrev pub IsOnce : Scope → Type 0
IsOnce scope = (k : ℕ) (m : NamedReactor) → slice_get scope.meanings.items k ≡ Some m → (c : Class) → in_scope scope m.name.now ≡ Some c → c.number ≡ m.class.number

-- the scope has the reactors of the file alone, and all
pub record IsOwnScope (files : List SourceFile) (file : ℕ) (scope : Scope) : Type 0 where
  pub is : IsScope (IsOwnAt files file) scope
  pub own : HasOwn files file scope.meanings.items

-- the scope has what names may mean in the file, and each of them means one reactor
pub record IsMeantScope (files : List SourceFile) (file : ℕ) (scope : Scope) : Type 0 where
  pub is : IsScope (MeansAt files file) scope
  pub own : HasOwn files file scope.meanings.items
  pub imports : HasImports files file scope.meanings.items
  pub once : IsOnce scope

-- each file has such a scope
pub record EachHasScope (P : ℕ → Scope → Type 0) (files : List SourceFile) (scopes : List Scope) : Type 0 where
  pub count : length scopes ≡ length files
  pub each : (t : ℕ) (s : Scope) → slice_get scopes t ≡ Some s → P t s

-- the scopes have the reactors of their files
abbrev pub AreOwnScopes : List SourceFile → List Scope → Type 0
AreOwnScopes files own = EachHasScope (IsOwnScope files) files own

-- the scopes have the meanings that names may have in their files
abbrev pub AreMeantScopes : List SourceFile → List Scope → Type 0
AreMeantScopes files scopes = EachHasScope (IsMeantScope files) files scopes
