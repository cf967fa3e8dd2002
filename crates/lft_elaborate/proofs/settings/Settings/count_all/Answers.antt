use Rattle.lft_elaborate.proofs.Keeping.{goes_further, goes_nowhere}
use Rattle.lft_elaborate.proofs.settings.Settings.count_all.Goals as goal

pub loop-place-init : goal.loop-place-init
loop-place-init c = record { goes = goes_nowhere _ }

pub loop-place-preserved : goal.loop-place-preserved
loop-place-preserved c = record { goes = goes_further _ _ _ c.loop-place.invariant.goes c.in_ok-counts.ensures.goes }
