use Rattle.std.proofs.Common.{◌⊎◌}
use Rattle.lft_lists.proofs.Members.{Mem}
use Rattle.lft_ir.specs.declared.parts.Name.{Name}
use Rattle.lft_queue.specs.inner.Coming.Listeners.{IsUnheard}
use Rattle.lft_queue.proofs.coming.coming.Coming.are_unheard.Given as goal

-- each name triggers nothing, or is still to come
abbrev pub invariant-loop-name : goal.invariant-loop-name
invariant-loop-name l = (n : Name) → Mem n l.initial.name-iterator → IsUnheard l.listeners n ⊎ Mem n l.name-iterator
