use Rattle.std.proofs.Common.{◌≡◌, ℕ, ◌<◌, length, Some, slice_get, filter_map}
use Rattle.lft_ir.specs.{Naming.named, declared.parts.Reaction.Reaction}
use Rattle.lft_queue.specs.inner.Coming.Listeners.{IsListed}
use Rattle.lft_queue.proofs.coming.listeners.NameListeners.new.Given as goal

abbrev pub invariant-loop-number : goal.invariant-loop-number
invariant-loop-number l = record { ports : length l.listeners.ports ≡ length l.program.ports; actions : length l.listeners.actions ≡ length l.program.actions; listed : (r : ℕ) (x : Reaction) → r < l.number → slice_get l.program.reactions r ≡ Some x → IsListed l.program (filter_map named x.triggers) r l.listeners }
