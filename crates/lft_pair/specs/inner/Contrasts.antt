-- Inside: what two runs of r at g show beside one another, the one of the trace t, the other of s.
use Rattle.std.specs.Prelude.{ℕ, List, map}
use Rattle.lft_ir.specs.declared.parts.Value.{Value}
use Rattle.lft_pair.specs.{declared.contrasting.contrasts.Scheduling.Scheduling, Contrasts.event}

abbrev pub events : List Scheduling → List (ℕ × Value)
events list = map event list
