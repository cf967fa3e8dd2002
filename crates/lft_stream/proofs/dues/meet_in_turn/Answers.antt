use Rattle.lft_stream.proofs.dues.meet_in_turn.Goals as goal

pub returns-in_default-meet-clause-due : goal.returns-in_default-meet-clause-due
returns-in_default-meet-clause-due c = λ plan t r triggers last ran are. c.meet.ensures.due plan t r triggers last ran (c.loop.invariant.due plan t r triggers last ran are)

pub returns-in_default-meet-2-clause-due : goal.returns-in_default-meet-2-clause-due
returns-in_default-meet-2-clause-due c = λ plan t r triggers last ran are. c.meet.ensures.due plan t r triggers last ran (c.loop.invariant.due plan t r triggers last ran are)

pub loop-preserved : goal.loop-preserved
loop-preserved c = record {
  due = λ plan t r triggers last ran are. c.meet.ensures.due plan t r triggers last ran (c.loop.invariant.due plan t r triggers last ran are);
  present = λ z plan t r triggers last ran are. c.in-Some-true.ensures.present c.in-Some-true.field-0-test plan t r triggers last ran (c.loop.invariant.due plan t r triggers last ran are);
}
