-- Inside: texts of which a refusal is told.
use Rattle.std.specs.Prelude.{ℕ, List, string_bytes}
use Rattle.lft_ir.specs.Parts.{Parts}
use Rattle.lft_load.specs.Meaning.{IsOnly, IsProgramOf}
use Rattle.lft_driver.specs.{declared.refused.Start.Start, Told.TellsText}
use Rattle.lft_driver.specs.declared.refused.Start.TheVariants as start

-- the text has no program
abbrev pub HasNoProgram : List ℕ → Type 0
HasNoProgram text = (parts : Parts) → IsProgramOf text parts → ⊥

-- what a program's text gives: its one program; where it has none, the words tell why
abbrev pub ReadsProgram : List ℕ → Start → Type 0
ReadsProgram text (start.Program parts) = IsOnly (IsProgramOf text) parts
ReadsProgram text (start.Refused words) = HasNoProgram text × TellsText text (string_bytes words)
