use Rattle.lft_rows.specs.inner.Seats.{AreSeatsTo}
use Rattle.lft_rows.proofs.seats.Inputs.new.Given as goal

abbrev pub invariant-loop-place : goal.invariant-loop-place
invariant-loop-place l = AreSeatsTo l.place l.list l.ports l.actions
