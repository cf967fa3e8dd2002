use Rattle.lft_elaborate.proofs.Keeping.{goes_further, goes_nowhere}
use Rattle.lft_elaborate.proofs.settings.Settings.count.Goals as goal

pub loop-number-init : goal.loop-number-init
loop-number-init c = record { goes = goes_nowhere _ }

pub loop-number-preserved : goal.loop-number-preserved
loop-number-preserved c = record { goes = goes_further _ _ _ c.loop-number.invariant.goes c.in_ok-other.ensures.goes }
