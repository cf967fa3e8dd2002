use Rattle.std.proofs.Common.{Bool, IsTrue, subst}
use Rattle.lft_stream.{specs.inner.Dues.GoOn, proofs.dues.meet_all.Goals.{then-is_present, else-is_present}}
use Rattle.lft_stream.proofs.dues.meet_all.Goals as goal

pub returns-in_default-clause-due : goal.returns-in_default-clause-due
returns-in_default-clause-due c = λ plan t r triggers last ran are. c.meet.ensures.due plan t r triggers last ran (c.loop-place.invariant.due plan t r triggers last ran are)

pub loop-place-preserved : goal.loop-place-preserved
loop-place-preserved c =
    let due : GoOn c.args.last c.args.tag c.args.dues.now c.meet.new.dues = λ plan t r triggers last ran are. c.meet.ensures.due plan t r triggers last ran (c.loop-place.invariant.due plan t r triggers last ran are) in
    elim c.if-is_present.branch [
      | then-is_present w ↦ record { due = due; present = λ z. c.loop-place.invariant.present w.if-is_present.true }
      | else-is_present w ↦ record { due = due; present = λ z plan t r triggers last ran are. c.in-Some.ensures.present (subst (λ (b : Bool). IsTrue b) w.is_present-is z) plan t r triggers last ran (c.loop-place.invariant.due plan t r triggers last ran are) }
    ]
