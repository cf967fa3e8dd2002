use Rattle.std.proofs.Common.{take}
use Rattle.lft_scheduler.specs.inner.Filling.{HaveLeaders}
use Rattle.lft_scheduler.proofs.listeners.leading.leaders.Given as goal

abbrev pub invariant-triggers : goal.invariant-triggers
invariant-triggers l = HaveLeaders l.program (take l.place l.triggers) l.leaders
