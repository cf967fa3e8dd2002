use Rattle.std.proofs.Common.{◌≡◌, Some, length}
use Rattle.lft_program.{specs.inner.Laying.trigger_at, proofs.Making.Made}
use Rattle.lft_program.proofs.spots.triggers.Given as goal

abbrev pub invariant-loop-cue : goal.invariant-loop-cue
invariant-loop-cue l = (length l.triggers.items ≡ l.cue-index) × Made (λ _ x y. trigger_at l.nest l.instance x ≡ Some y) l.cues l.triggers.items
