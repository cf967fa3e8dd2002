-- Inside: why a program isn't lowered, and of which of its files.
use Rattle.std.specs.Prelude.{◌≡◌, ◌⊎◌, ℕ, List, []}
use Rattle.lft_whole.specs.declared.sources.{source.SourceFile.SourceFile, stop.{Place.Place, FileRefusal.FileRefusal}}
use Rattle.lft_whole_parser.specs.{inner.Imports.Files.RefusesNext, declared.imports.sources.Sources.Sources}
use Rattle.lft_whole_driver.specs.{inner.Lowered.BeginsAs, declared.told.Unlowered.Unlowered}
use Rattle.lft_whole_driver.specs.Unlowered.{IsOfImport, IsOfLater, AreRefused, Says, IsRefusedTree}
use Rattle.lft_whole.specs.declared.sources.stop.NoProgram.TheVariants as stop
use Rattle.lft_whole.specs.declared.sources.why.Why.TheVariants as why

-- Why these files have no program: a refusal of them is told, or of the tree to which they are lowered.
abbrev pub IsUnloweredFrom : List SourceFile → Unlowered → Type 0
IsUnloweredFrom files u = Says (AreRefused files) u ⊎ IsRefusedTree files u

-- ---- for the crate's own contracts
-- the refusal is of the import at this place in these files: the file that it names can't be read
abbrev pub IsImportRefusedAt : List SourceFile → Place → List SourceFile → List ℕ → FileRefusal → Type 0
IsImportRefusedAt these place files first r = (files ≡ these) × (r.why ≡ why.NotRead) × (r.place ≡ place)

-- so it is of an import of these files
abbrev pub IsOfUnread : List SourceFile → List SourceFile → List ℕ → FileRefusal → Type 0
IsOfUnread these files first r = (files ≡ these) × IsOfImport files r

-- the refusal is of the file that was to be read next, for this text; nothing is said first
abbrev pub IsOfNext : List ℕ → Sources → List SourceFile → List ℕ → FileRefusal → Type 0
IsOfNext text sources files first r = (first ≡ []) × RefusesNext text sources files (stop.Refused r)

-- the refusal is of a file that is read behind these
abbrev pub IsOfRest : List SourceFile → List SourceFile → List ℕ → FileRefusal → Type 0
IsOfRest these files first r = BeginsAs these files × IsOfLater files first r
