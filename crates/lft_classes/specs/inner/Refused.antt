-- Why there are no reactors below the main one.
use Rattle.std.specs.Prelude.{◌≡◌}
use Rattle.lft_whole.specs.declared.{tree.Foreign.Foreign, sources.{stop.NoProgram.NoProgram, why.Why.Why}}
use Rattle.lft_whole.specs.declared.tree.Foreign.TheVariants as foreign
use Rattle.lft_whole.specs.declared.sources.stop.NoProgram.TheVariants as stop
use Rattle.lft_whole.specs.declared.sources.why.Why.TheVariants as why

-- what is said of a member that no core program has
abbrev pub why_of : Foreign → Why
why_of foreign.Mode = why.Mode
why_of foreign.Mutation = why.Mutation
why_of foreign.Watchdog = why.Watchdog

-- ---- for the crate's own contracts

-- the refusal says that more would be listed than may be
abbrev pub IsTooMuch : NoProgram → Type 0
IsTooMuch (stop.Refused refusal) = refusal.why ≡ why.TooMuch
IsTooMuch stop.NoMemory = Unit {0}
