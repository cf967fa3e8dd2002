-- Why a program isn't lowered, and of which of its files.
use Rattle.std.specs.Prelude.{◌≡◌, ◌⊎◌, ◌<◌, ℕ, IsSomeAnd, List, ◌∷◌, ◌++◌, None, length, slice_get, string_bytes, []}
use Rattle.lft_whole.specs.declared.sources.{source.SourceFile.SourceFile, stop.FileRefusal.FileRefusal}
use Rattle.lft_whole_parser.specs.Imports.{Files.{IsImportOf, IsRefusedFor, paths_of_files}, Paths.normal}
use Rattle.lft_resolve.specs.Causes.{IsFirst, causes}
use Rattle.lft_tree.specs.{View.tree_view, declared.ast.Ast.Ast}
use Rattle.lft_whole_driver.specs.{Lowered.{AreFilesOf, BeginWith, LeadTo}, Told.{TellsRefusal, TellsTree}, declared.told.Unlowered.Unlowered}
use Rattle.lft_whole.specs.declared.sources.why.Why.TheVariants as why

-- the refusal is of the first file, which has this path, and is refused for this text
abbrev pub IsOfFirst : List ℕ → List ℕ → List SourceFile → FileRefusal → Type 0
IsOfFirst path text files r = (r.place.file ≡ 0) × IsSomeAnd (slice_get files 0) (λ file. (string_bytes file.path ≡ normal path) × IsRefusedFor text file r.place.token r.why)

-- the refusal is of the last of the files, for some text; those before it, one at least, lead to it by imports
pub record IsOfImported (files : List SourceFile) (r : FileRefusal) : Type 0 where
  pub before : List SourceFile
  pub last : SourceFile
  pub text : List ℕ
  pub all : files ≡ before ++ last ∷ []
  pub some : 0 < length before
  pub lead : LeadTo before (paths_of_files files)
  pub place : r.place.file ≡ length before
  pub refused : IsRefusedFor text last r.place.token r.why

-- the refusal is of an import of the files, which lead to a path that isn't one of theirs: the file there can't be read
abbrev pub IsOfImport : List SourceFile → FileRefusal → Type 0
IsOfImport files r = (r.why ≡ why.NotRead) × ((path : List ℕ) × LeadTo files (paths_of_files files ++ path ∷ []) × IsImportOf files path r.place)

-- the refusal is of a file behind the first, of which nothing is said first; or of an import whose file can't be read
abbrev pub IsOfLater : List SourceFile → List ℕ → FileRefusal → Type 0
IsOfLater files first r = ((first ≡ []) × IsOfImported files r) ⊎ IsOfImport files r

-- the refusal is of the text of the program, of which nothing is said first; or it is read, and the refusal is of what it imports
abbrev pub IsOfReading : List ℕ → List ℕ → List SourceFile → List ℕ → FileRefusal → Type 0
IsOfReading path text files first r = ((first ≡ []) × IsOfFirst path text files r) ⊎ (BeginWith path text files × IsOfLater files first r)

-- The refusal is of the program of these files; nothing is said first.
abbrev pub AreRefused : List SourceFile → List SourceFile → List ℕ → FileRefusal → Type 0
AreRefused these files first r = (files ≡ these) × (first ≡ [])

-- The refusal is of a file as the program of this path and this text is read; or of all its files.
abbrev pub IsOfProgram : List ℕ → List ℕ → List SourceFile → List ℕ → FileRefusal → Type 0
IsOfProgram path text files first r = IsOfReading path text files first r ⊎ (AreFilesOf path text files × AreRefused files files first r)

-- Such a refusal is told, of such files; or nothing is told, where a file can't be read or memory is refused.
abbrev pub Says : (List SourceFile → List ℕ → FileRefusal → Type 0) → Unlowered → Type 0
Says Is u = (u.told ≡ None) ⊎ ((files : List SourceFile) × (first : List ℕ) × (refusal : FileRefusal) × Is files first refusal × TellsRefusal files first refusal u)

-- A tree has no flat program, and the first cause of refusal that holds of it is told.
pub record IsRefusedTree (files : List SourceFile) (u : Unlowered) : Type 0 where
  pub tree : Ast
  pub cause : ℕ
  pub first : IsFirst (causes (tree_view tree)) cause
  pub tells : TellsTree files tree.items.items cause u

-- Why this path and this text have no program: a refusal is told as they are read, or of their files, or of a tree.
abbrev pub IsUnloweredOf : List ℕ → List ℕ → Unlowered → Type 0
IsUnloweredOf path text u = Says (IsOfProgram path text) u ⊎ ((files : List SourceFile) × AreFilesOf path text files × IsRefusedTree files u)
