use Rattle.std.proofs.Common.{sym, ◌∙◌}
use Rattle.lft_pair.proofs.{Answering.{written_none, written_put}, answers.written_by.Goals.{in-Some+in_ok-_before, in_default}}
use Rattle.lft_pair.proofs.answers.written_by.Goals as goal

pub loop-place-preserved : goal.loop-place-preserved
loop-place-preserved c =
    let steps = c.args.steps.now in
    let i = c.loop-place.place in
    let s = c.item_at.result in
    elim c.match-writing.branch [
      | in-Some+in_ok-_before w ↦ rw w.written-is (λ p. written_put p w.in-Some.write.0 w.in-Some.write.1 steps i s _ _ c.item_at.ensures (sym c.writing.ensures ∙ w.in-Some.is) (w.in_ok-_before.ensures.updates.0 p) (c.loop-place.invariant p))
      | in_default w ↦ rw w.written-is (λ p. written_none p steps i s _ c.item_at.ensures (sym c.writing.ensures ∙ w.in_default.is) (c.loop-place.invariant p))
    ]
