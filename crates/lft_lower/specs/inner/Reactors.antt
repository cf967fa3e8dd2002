-- The core reactors of settings.
use Rattle.std.specs.Prelude.{◌≡◌, ◌↔◌, ℕ, Bool, true, false, IfSome, IsTrue, List, [], ◌∷◌, ◌++◌, Option, Some, None, filter_map, if◌then◌else◌, length, option_map, slice_get, slice_index_or, string_bytes}
use Rattle.std.specs.Option.{option_and_then}
use Rattle.lft_tree.specs.{Tree.{ItemTree, MemberTree, ParameterTree, ReactorTree, ReactorItem}, ItemView.item_views, declared.{ast.Ast.Ast, tree.Time.Time}}
use Rattle.lft_whole.specs.declared.{tree.Expression.Expression, sources.source.SourceFile.SourceFile}
use Rattle.lft_classes.specs.{inner.Nestings.IsNesting, declared.{nesting.Nesting.Nesting, shapes.{InheritedParameter.InheritedParameter, Shape.Shape}}}
use Rattle.lft_elaborate.specs.{Channels.Channels.below, declared.settings.Settings.Settings}
use Rattle.lft_elaborate.specs.inner.{Noted.{AreSettings, table}, Settings.shape_at, Used.AreUsed}
use Rattle.lft_lower.specs.inner.{Meanings.Names.AreNamesApart, Lowered.AreLowered, Needed.is_timed, Programs.IsCentralized, Standing.ArePlaced}
use Rattle.lft_lower.specs.inner.Times.{IsWrittenTime, time_of_value}

-- the time of a default; where none is written, each instance gives one, and this one is never read
abbrev pub default_time : Option Expression → Option Time
default_time None = Some (record { count = 0; unit = None })
default_time (Some e) = time_of_value e.value

-- a parameter with its default
abbrev pub parameter_tree : InheritedParameter → Option ParameterTree
parameter_tree p = option_map (λ time. record { name = string_bytes p.parameter.now.name.text; default = time }) (default_time p.parameter.now.default)

-- the parameter of this number, if a time is read from it
abbrev pub timed_parameter : Shape → ℕ → Option ParameterTree
timed_parameter shape n = if is_timed shape n then option_and_then parameter_tree (slice_get shape.parameters.items n) else None

-- the parameters from which times are read
abbrev pub timed_parameters : Shape → List ParameterTree
timed_parameters shape = filter_map (timed_parameter shape) (below (length shape.parameters.items))

-- a default writes out a time; it may be left out where the reactor isn't the main one
abbrev pub IsDefault : Bool → Option Expression → Type 0
IsDefault main None = main ≡ false
IsDefault main (Some e) = IsWrittenTime e.value

-- the parameter of this number is a time and has a default, if a time is read from it
abbrev pub HasDefault : Bool → Shape → ℕ → Type 0
HasDefault main shape n = is_timed shape n ≡ true → IfSome (slice_get shape.parameters.items n) (λ p. (p.parameter.now.is_time ≡ true) × IsDefault main p.parameter.now.default)

-- these are what the members of a shape become in a setting of it
abbrev pub AreMembers : Settings → List (Option (List ℕ)) → ℕ → Shape → List MemberTree → Type 0
AreMembers s names setting shape members = (never : Option (List ℕ)) × AreLowered names (record { settings = s; setting = setting; shape = shape }) shape.members.items members never

-- the core reactor of a setting: the first is the main one; each has its name, the parameters from which times are read, with defaults, and what its members become
pub record IsReactor (s : Settings) (names : List (Option (List ℕ))) (setting : ℕ) (shape : Shape) (r : ReactorTree) : Type 0 where
  pub main : IsTrue r.is_main ↔ (setting ≡ 0)
  pub name : r.name ≡ slice_index_or names setting None
  pub parameters : r.parameters ≡ timed_parameters shape
  pub defaults : (n : ℕ) → HasDefault r.is_main shape n
  pub members : AreMembers s names setting shape r.members

-- a core reactor for each setting, in order
pub data AreReactors (s : Settings) (names : List (Option (List ℕ))) : List ℕ → List ItemTree → Type 0 where
  no_reactors : AreReactors s names [] []
  more_reactors : (front : List ℕ) (setting : ℕ) (shape : Shape) (items : List ItemTree) (r : ReactorTree) → AreReactors s names front items → shape_at s setting ≡ Some shape → IsReactor s names setting shape r → AreReactors s names (front ++ setting ∷ []) (items ++ ReactorItem r ∷ [])

-- the shapes are of the main reactor of these files and of all that it contains
abbrev pub AreShapesOfFiles : List SourceFile → List Shape → Type 0
AreShapesOfFiles files shapes = (scopes : _) × (nesting : Nesting) × IsNesting files scopes nesting × (nesting.shapes.items ≡ shapes)

-- The settings are those of the program of these files, and those of these numbers are all that its instances have.
pub record IsProgram (files : List SourceFile) (s : Settings) (used : List ℕ) : Type 0 where
  pub shapes : AreShapesOfFiles files s.shapes.items
  pub settings : AreSettings (table s)
  pub are_used : AreUsed (table s) used

-- The program of these files is lowered to the tree: it has a core reactor for each setting that the instances of the program have, and no others, with names that differ. All in it stands at the tokens that it comes from.
pub record IsLowering (files : List SourceFile) (tree : Ast) : Type 0 where
  pub settings : Settings
  pub used : List ℕ
  pub program : IsProgram files settings used
  pub centralized : IsCentralized files settings
  pub names : List (Option (List ℕ))
  pub apart : AreNamesApart names
  pub reactors : AreReactors settings names used (item_views tree.items.items)
  pub placed : ArePlaced files settings used tree.items.items
