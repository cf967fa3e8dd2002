use Rattle.std.proofs.Common.{take}
use Rattle.lft_scheduler.specs.inner.Lists.{ArePushed}
use Rattle.lft_scheduler.proofs.listeners.push_all.Given as goal

abbrev pub invariant-triggers : goal.invariant-triggers
invariant-triggers l = ArePushed (take l.place l.triggers) l.reaction l.fn.lists l.lists
