use Rattle.std.proofs.Common.{◌⊎◌, List}
use Rattle.lft_lists.proofs.Members.{Mem}
use Rattle.lft_ir.specs.declared.{parts.Name.Name, steps.row.Row.Row}
use Rattle.lft_queue.specs.inner.Coming.Listeners.{AreStarted}
use Rattle.lft_stream.specs.inner.StartTags.{AreStartTags}
use Rattle.lft_stream.proofs.hearing.are_met.Given as goal

-- of each name the listeners have started, or it is still to come
abbrev pub invariant-loop-name : goal.invariant-loop-name
invariant-loop-name l = (whole : List Row) → AreStartTags l.program whole l.starts → (n : Name) → Mem n l.initial.name-iterator → AreStarted whole l.tag l.listeners n ⊎ Mem n l.name-iterator
