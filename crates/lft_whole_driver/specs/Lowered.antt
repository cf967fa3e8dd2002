-- What the files of a program are, and which program they are.
use Rattle.std.specs.Prelude.{ℕ, IsSomeAnd, List, slice_get}
use Rattle.lft_ir.specs.Parts.{Parts}
use Rattle.lft_whole_parser.specs.Imports.{Files.{AreOfTexts, AreReachedFiles, EachOnce, IsFileOf, IsWhole, paths_of_files}, Paths.normal}
use Rattle.lft_load.specs.Meaning.{IsOnly}
use Rattle.lft_same.specs.Expanded.{Expanded.Expanded, Flat.IsFlat, Same.IsSame, Taken.IsTaken}
use Rattle.lft_whole.specs.declared.sources.source.SourceFile.{SourceFile}

-- The first of the files has this path, and is read from this text.
abbrev pub BeginWith : List ℕ → List ℕ → List SourceFile → Type 0
BeginWith path text files = IsSomeAnd (slice_get files 0) (IsFileOf (normal path) text)

-- The files have the trees of texts. Imports of them lead to each of the paths from the first, and each stands there once.
pub record LeadTo (files : List SourceFile) (paths : List (List ℕ)) : Type 0 where
  pub trees : AreOfTexts files
  pub reached : AreReachedFiles files paths
  pub once : EachOnce paths

-- The first of the files has this path, and is read from this text; imports of them lead to each, and each import of them names one of them.
pub record AreFilesOf (path text : List ℕ) (files : List SourceFile) : Type 0 where
  pub first : BeginWith path text files
  pub lead : LeadTo files (paths_of_files files)
  pub whole : IsWhole files

-- The program is the one flat program of the whole program of these files, written out; and that one is taken: all that its instances have is something.
abbrev pub IsOfFiles : List SourceFile → Parts → Type 0
IsOfFiles files program = (expanded : Expanded) × (same : IsSame files expanded) × IsTaken files same.widths × IsOnly (IsFlat expanded) program

-- So it is of the files of this path and this text.
abbrev pub IsProgramOfFiles : List ℕ → List ℕ → Parts → Type 0
IsProgramOfFiles path text program = (files : List SourceFile) × AreFilesOf path text files × IsOfFiles files program
