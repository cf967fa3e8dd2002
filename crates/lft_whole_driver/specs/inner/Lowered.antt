-- Inside: what the files of a program are, and which program they are.
use Rattle.std.specs.Prelude.{◌≡◌, List, Some, slice_get}
use Rattle.lft_whole.specs.declared.sources.source.SourceFile.{SourceFile}

-- ---- for the crate's own contracts
-- The first file stays.
abbrev pub BeginsAs : List SourceFile → List SourceFile → Type 0
BeginsAs old new = (file : SourceFile) → slice_get old 0 ≡ Some file → slice_get new 0 ≡ Some file
