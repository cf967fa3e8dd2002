use Rattle.std.proofs.Common.{◌≡◌, ℕ, ◌<◌, List, Some, Contains, slice_get}
use Rattle.lft_ir.specs.declared.parts.Name.{Name}
use Rattle.lft_queue.specs.inner.Coming.Listeners.{list_of, heard_at, BothGrow}
use Rattle.lft_queue.proofs.coming.listeners.NameListeners.add.Given as goal

abbrev pub invariant-loop-place : goal.invariant-loop-place
invariant-loop-place l = record { grown : BothGrow l.fn.self l.self; listed : (k : ℕ) (n : Name) (list : List ℕ) → k < l.place → slice_get l.names k ≡ Some n → list_of l.self (heard_at l.program n) ≡ Some list → Contains list l.reaction }
