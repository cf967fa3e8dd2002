use Rattle.std.proofs.Common.{◌≡◌, ℕ, ◌<◌, true, List, length, Some, Contains, slice_get}
use Rattle.lft_ir.specs.declared.parts.Port.{Port as PortOf}
use Rattle.lft_queue.specs.inner.Coming.AtOnce.{is_undelayed}
use Rattle.lft_queue.proofs.coming.channels.channels_to.Given as goal

abbrev pub invariant-loop-number : goal.invariant-loop-number
invariant-loop-number l = record { as_long : length l.channels ≡ length l.program.ports; each : (p : ℕ) (port : PortOf) (list : List ℕ) → p < l.number → slice_get l.marked p ≡ Some true → slice_get l.program.ports p ≡ Some port → is_undelayed l.program p ≡ l.at_once → slice_get l.channels port.origin ≡ Some list → Contains list p }
