use Rattle.std.proofs.Common.{◌≡◌, ◌<◌, ℕ, Some, slice_get}
use Rattle.lft_ir.specs.{Steps.Fits.EventFits, declared.steps.externals.Event.Event}
use Rattle.lft_ir.proofs.steps.externals.Externals.fits.Given as goal

abbrev pub invariant-loop-at : goal.invariant-loop-at
invariant-loop-at l = (k : ℕ) (event : Event) → k < l.at → slice_get l.self.events k ≡ Some event → EventFits l.program event
