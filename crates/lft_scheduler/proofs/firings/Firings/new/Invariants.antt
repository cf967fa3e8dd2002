use Rattle.lft_tag.specs.Tags.{UpTo}
use Rattle.lft_scheduler.proofs.FirstFirings.{AreFirstOf}
use Rattle.lft_scheduler.proofs.firings.Firings.new.Given as goal

abbrev pub invariant-loop-at : goal.invariant-loop-at
invariant-loop-at l = AreFirstOf l.program (λ h. UpTo (record { time = 0; micro = 0 }) h) l.timers l.at l.firings.items
