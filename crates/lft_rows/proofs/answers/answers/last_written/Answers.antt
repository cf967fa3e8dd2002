use Rattle.std.proofs.Common.{sym, ◌∙◌}
use Rattle.lft_model.specs.Presence.{value_written}
use Rattle.lft_rows.proofs.{AnswersLemmas.Stepping.{last_stays, last_changes}, answers.answers.last_written.Goals.{then-is_some, else-is_some}}
use Rattle.lft_rows.proofs.answers.answers.last_written.Goals as goal

pub loop-place-preserved : goal.loop-place-preserved
loop-place-preserved c =
    let h = value_written c.args.port in
    let now = c.value_written-value in
    elim c.if-is_some.branch [
      | then-is_some w ↦ w.last-is ∙ last_changes h c.args.steps.now c.loop-place.place c.item_at.result now.result c.item_at.ensures now.ensures (sym c.is_some.ensures ∙ w.if-is_some.true)
      | else-is_some w ↦ w.last-is ∙ last_stays h c.args.steps.now c.loop-place.place c.item_at.result c.loop-place.last now.result c.item_at.ensures now.ensures (sym c.is_some.ensures ∙ w.if-is_some.false) c.loop-place.invariant
    ]
