-- Inside: what is told of a program that isn't lowered.
use Rattle.std.specs.Prelude.{◌≡◌, ◌⊎◌, ℕ, List, None}
use Rattle.lft_whole.specs.declared.sources.{source.SourceFile.SourceFile, stop.NoProgram.NoProgram}
use Rattle.lft_whole_driver.specs.{declared.told.Unlowered.Unlowered, Told.TellsRefusal}
use Rattle.lft_whole.specs.declared.sources.stop.NoProgram.TheVariants as stop

-- ---- for the crate's own contracts
-- Of a refusal that is told this is told.
abbrev pub IsTold : List SourceFile → List ℕ → NoProgram → Unlowered → Type 0
IsTold files first (stop.Refused refusal) u = TellsRefusal files first refusal u ⊎ (u.told ≡ None)
IsTold files first stop.NoMemory u = u.told ≡ None
