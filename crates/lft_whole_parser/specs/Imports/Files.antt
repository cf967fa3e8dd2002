-- The files of a program: which paths are asked for, and which file each import names.
use Rattle.std.specs.Prelude.{◌≡◌, ◌⊎◌, ℕ, List, Some, IsSomeAnd, length, map, slice_get, string_bytes}
use Rattle.std.specs.Str.{IsUtf8}
use Rattle.lft_whole.specs.declared.{tree.Import.Import, sources.{source.SourceFile.SourceFile, stop.Place.Place, why.Why.{Why, TheVariants.NotRead}}}
use Rattle.lft_whole_parser.specs.Imports.{Paths.meaning, Reads.{HasNoFileTree, HasTree}}

-- The paths of files.
abbrev pub paths_of_files : List SourceFile → List (List ℕ)
paths_of_files files = map (λ file. string_bytes file.path) files

-- Each path stands there once.
abbrev pub EachOnce : List (List ℕ) → Type 0
EachOnce paths = (i j : ℕ) (path : List ℕ) → slice_get paths i ≡ Some path → slice_get paths j ≡ Some path → i ≡ j

-- Each import in a file of that path has the number of the path that it means, and there are no other numbers.
abbrev pub AreNumbered : List (List ℕ) → List ℕ → List Import → List ℕ → Type 0
AreNumbered paths path imports numbers = (length numbers ≡ length imports) × ((i : ℕ) (import : Import) → slice_get imports i ≡ Some import → IsSomeAnd (slice_get numbers i) (λ number. slice_get paths number ≡ Some (meaning path import.path.items)))

-- Each import of the file has the number of the path that it means.
abbrev pub HasNumberedImports : List (List ℕ) → SourceFile → Type 0
HasNumberedImports paths file = AreNumbered paths (string_bytes file.path) file.tree.imports.items file.imports.items

-- An import in a file of the one path means the other.
abbrev pub HasImport : List ℕ → List Import → List ℕ → Type 0
HasImport importer imports path = (i : ℕ) × IsSomeAnd (slice_get imports i) (λ import. meaning importer import.path.items ≡ path)

-- Imports of the files lead from the one path to the other, in none, one or more steps.
pub data LeadsTo (files : List SourceFile) (from : List ℕ) : List ℕ → Type 0 where
  itself : LeadsTo files from from
  further : {path : List ℕ} (k : ℕ) (file : SourceFile) → LeadsTo files from (string_bytes file.path) → slice_get files k ≡ Some file → HasImport (string_bytes file.path) file.tree.imports.items path → LeadsTo files from path

-- Imports of the files lead from the first of the paths to each.
abbrev pub AreReachedFiles : List SourceFile → List (List ℕ) → Type 0
AreReachedFiles files paths = (k : ℕ) (first path : List ℕ) → slice_get paths 0 ≡ Some first → slice_get paths k ≡ Some path → LeadsTo files first path

-- The import at this place, in one of the files, means the path.
abbrev pub IsImportOf : List SourceFile → List ℕ → Place → Type 0
IsImportOf files path place = IsSomeAnd (slice_get files place.file) (λ file. (i : ℕ) × IsSomeAnd (slice_get file.tree.imports.items i) (λ import. (place.token ≡ import.at) × (meaning (string_bytes file.path) import.path.items ≡ path)))

-- Each of the files has the tree of its text, and the spots of its tokens.
abbrev pub AreOfTexts : List SourceFile → Type 0
AreOfTexts files = (k : ℕ) (file : SourceFile) → slice_get files k ≡ Some file → HasTree file.text.items file.spots.items file.tree

-- The file of that path is read from that text: it has the tree of the text, and the spots of its tokens.
pub record IsFileOf (path t : List ℕ) (file : SourceFile) : Type 0 where
  pub same : string_bytes file.path ≡ path
  pub text : file.text.items ≡ t
  pub tree : HasTree t file.spots.items file.tree

-- Each import of the files names one of them, by number.
abbrev pub IsWhole : List SourceFile → Type 0
IsWhole files = (k : ℕ) (file : SourceFile) → slice_get files k ≡ Some file → HasNumberedImports (paths_of_files files) file

-- An import at that token has a path that is no UTF-8.
abbrev pub HasUnread : List Import → ℕ → Type 0
HasUnread imports token = (i : ℕ) × IsSomeAnd (slice_get imports i) (λ import. (token ≡ import.at) × (IsUtf8 import.path.items → ⊥))

-- The file is refused for that text, at that token: the text has no tree, or it has, and the path of an import there is no UTF-8.
abbrev pub IsRefusedFor : List ℕ → SourceFile → ℕ → Why → Type 0
IsRefusedFor t file token why = HasNoFileTree t file.spots.items token why ⊎ ((why ≡ NotRead) × HasTree t file.spots.items file.tree × HasUnread file.tree.imports.items token)
