-- How far reactions are at a tag.
use Rattle.std.specs.Prelude.{Bool, true, false}
use Rattle.lft_scheduler.specs.declared.turn.phase.Phase.{Phase, TheVariants.{Idle, Waiting, Open}}

-- triggered, and its run hasn't ended
abbrev pub pending : Phase → Bool
pending Idle = false
pending Waiting = true
pending Open = true
