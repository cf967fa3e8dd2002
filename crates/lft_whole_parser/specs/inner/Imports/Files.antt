-- Inside: the files of a program: which paths are asked for, and which file each import names.
use Rattle.std.specs.Prelude.{◌≡◌, ◌<◌, ◌↔◌, ◌⊎◌, ℕ, All, List, ◌∷◌, ◌++◌, Option, Some, None, IsSomeAnd, length, map, slice_get, string_bytes, take, []}
use Rattle.std.specs.{BTreeMap.get_by_text, List.sum_by}
use Rattle.lft_whole.specs.declared.tree.Import.{Import}
use Rattle.lft_whole.specs.declared.sources.{source.SourceFile.SourceFile, stop.{Place.Place, NoProgram.NoProgram}, why.Why.TheVariants.NotRead}
use Rattle.lft_whole.specs.inner.Sources.Tokens.{StandsAt}
use Rattle.lft_whole_parser.specs.declared.imports.{asked.{FileNumbers.FileNumbers, WantedFile.WantedFile}, reading.Text.Text, sources.Sources.Sources}
use Rattle.lft_whole_parser.specs.Imports.Paths.{meaning}
use Rattle.lft_whole_parser.specs.Imports.Files.{HasNumberedImports, AreReachedFiles, IsImportOf, AreOfTexts, IsFileOf, HasUnread, IsRefusedFor}
use Rattle.lft_whole.specs.declared.sources.stop.NoProgram.TheVariants as stop

-- The paths that are asked for, by number.
abbrev pub paths_of : FileNumbers → List (List ℕ)
paths_of asked = map (λ wanted. string_bytes wanted.path) asked.paths.items

-- A path is known by its number among those that are asked for.
abbrev pub IsKnown : FileNumbers → Type 0
IsKnown asked = (path : List ℕ) (number : ℕ) → (get_by_text asked.known path ≡ Some number) ↔ (slice_get (paths_of asked) number ≡ Some path)

-- The program itself is named by no import. Any other file is named by one, which means its path.
abbrev pub IsNamedBy : List SourceFile → ℕ → List ℕ → Option Place → Type 0
IsNamedBy files number path None = number ≡ 0
IsNamedBy files number path (Some place) = (0 < number) × IsImportOf files path place

-- So are those that are wanted, each by the import that is kept with it.
abbrev pub AreNamed : List SourceFile → List WantedFile → Type 0
AreNamed files wanted = (k : ℕ) (one : WantedFile) → slice_get wanted k ≡ Some one → IsNamedBy files k (string_bytes one.path) one.import

-- So many tokens the files have, with the end of each.
abbrev pub how_many_tokens : List SourceFile → ℕ
how_many_tokens files = sum_by (λ file. length file.spots.items) files

-- The number of the first token of each is that of the tokens of the files before it.
abbrev pub AreCounted : List SourceFile → Type 0
AreCounted files = (k : ℕ) (file : SourceFile) → slice_get files k ≡ Some file → file.first ≡ how_many_tokens (take k files)

-- Of all files no two tokens have one number.
abbrev pub AreTokensApart : List SourceFile → Type 0
AreTokensApart files = (number : ℕ) (one other : Place) → StandsAt files number one → StandsAt files number other → one ≡ other

-- The files that are read are the first of the paths that are asked for, and have the trees of texts; their tokens are counted; each import of them has its number, and imports of them lead to each path, and name it.
pub record AreSources (sources : Sources) : Type 0 where
  pub known : IsKnown sources.asked
  pub read : (k : ℕ) (file : SourceFile) → slice_get sources.files.items k ≡ Some file → slice_get (paths_of sources.asked) k ≡ Some (string_bytes file.path)
  pub trees : AreOfTexts sources.files.items
  pub tokens : sources.tokens ≡ how_many_tokens sources.files.items
  pub counted : AreCounted sources.files.items
  pub numbered : (k : ℕ) (file : SourceFile) → slice_get sources.files.items k ≡ Some file → HasNumberedImports (paths_of sources.asked) file
  pub reached : AreReachedFiles sources.files.items (paths_of sources.asked)
  pub named : AreNamed sources.files.items sources.asked.paths.items

-- The path that is to be read next, if not all are read.
abbrev pub next_path : Sources → Option (List ℕ)
next_path sources = slice_get (paths_of sources.asked) (length sources.files.items)

-- One file more is read: the one that was to be read next.
abbrev pub HasOneMore : List ℕ → Sources → Sources → Type 0
HasOneMore t before after = (path : List ℕ) → next_path before ≡ Some path → (file : SourceFile) × IsFileOf path t file × (after.files.items ≡ before.files.items ++ file ∷ [])

-- A refusal is of the file that was to be read next. It stands behind those that were read before, and is refused for that text.
abbrev pub RefusesNext : List ℕ → Sources → List SourceFile → NoProgram → Type 0
RefusesNext t before files (stop.Refused refusal) = (file : SourceFile) × (next_path before ≡ Some (string_bytes file.path)) × (files ≡ before.files.items ++ file ∷ []) × (refusal.place.file ≡ length before.files.items) × IsRefusedFor t file refusal.place.token refusal.why
RefusesNext t before files stop.NoMemory = Unit {0}

-- ---- for the crate's own contracts
-- The later list is the earlier one, and such behind it.
abbrev pub Adds : {X : Type 0} → List X → (X → Type 0) → List X → Type 0
Adds {X} before Such after = (more : List X) × All Such more × (after ≡ before ++ more)

-- An import in the file of that number and path means the path that is wanted, and is kept with it.
abbrev pub IsAskedBy : ℕ → List ℕ → List Import → WantedFile → Type 0
IsAskedBy number path imports wanted = (i : ℕ) × IsSomeAnd (slice_get imports i) (λ import. (wanted.import ≡ Some (record { file = number; token = import.at })) × (meaning path import.path.items ≡ string_bytes wanted.path))

-- The refusal is of a path that is no UTF-8, of an import of the file of that number.
abbrev pub IsUnreadPath : ℕ → List Import → NoProgram → Type 0
IsUnreadPath number imports (stop.Refused refusal) = (refusal.why ≡ NotRead) × (refusal.place.file ≡ number) × HasUnread imports refusal.place.token
IsUnreadPath number imports stop.NoMemory = Unit {0}

-- The refusal is that of the text of the file of that number; or it has none, and the refusal is of a path in the file.
abbrev pub IsRefusalOf : ℕ → Text → NoProgram → Type 0
IsRefusalOf number read (stop.Refused refusal) = (refusal.place.file ≡ number) × ((read.refused ≡ Some (record { why = refusal.why; token = refusal.place.token })) ⊎ ((read.refused ≡ None) × (refusal.why ≡ NotRead) × HasUnread read.tree.imports.items refusal.place.token))
IsRefusalOf number read stop.NoMemory = Unit {0}
