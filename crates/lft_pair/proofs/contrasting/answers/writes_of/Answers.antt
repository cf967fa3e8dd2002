use Rattle.std.proofs.Common.{sym, ◌∙◌}
use Rattle.lft_pair.proofs.{Answered.{write_none, write_put}, contrasting.answers.writes_of.Goals.{in-Some+in_ok-_before, in_default}}
use Rattle.lft_pair.proofs.contrasting.answers.writes_of.Goals as goal

pub loop-place-preserved : goal.loop-place-preserved
loop-place-preserved c =
    let steps = c.args.steps.now in
    let i = c.loop-place.place in
    let x = c.item_at.result in
    elim c.match-writing.branch [
      | in-Some+in_ok-_before w ↦ rw w.writes-is (λ p. write_put steps i x c.item_at.ensures p w.in-Some.write.0 w.in-Some.write.1 _ _ (sym c.writing.ensures ∙ w.in-Some.is) (w.in_ok-_before.ensures.updates.0 p) (c.loop-place.invariant p))
      | in_default w ↦ rw w.writes-is (λ p. write_none steps i x c.item_at.ensures p _ (sym c.writing.ensures ∙ w.in_default.is) (c.loop-place.invariant p))
    ]
