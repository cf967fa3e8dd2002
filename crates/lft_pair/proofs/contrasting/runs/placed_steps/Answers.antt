use Rattle.std.proofs.Common.{sym, ap, ◌∙◌, Some, None, append-nil, arith}
use Rattle.lft_pair.proofs.{Placing.{placed_more, placed_end}, contrasting.runs.placed_steps.Goals.{in-Some+in_ok-push, in_default}}
use Rattle.lft_pair.proofs.contrasting.runs.placed_steps.Goals as goal

pub loop-place-preserved : goal.loop-place-preserved
loop-place-preserved c =
    let t = c.args.rows.now in
    let i = c.loop-place.place in
    let run = c.loop-place.steps.items in
    elim c.match-step_of.branch [
      | in-Some+in_ok-push w ↦ ap (λ v. v.items) w.steps-is ∙ w.in_ok-push.ensures.items ∙ placed_more t c.args.tag c.args.reaction i c.row_at.result (Some w.in-Some.step) run c.row_at.ensures (sym w.in-Some.is ∙ c.step_of.ensures) c.loop-place.invariant
      | in_default w ↦ ap (λ v. v.items) w.steps-is ∙ sym (append-nil run) ∙ placed_more t c.args.tag c.args.reaction i c.row_at.result None run c.row_at.ensures (sym w.in_default.is ∙ c.step_of.ensures) c.loop-place.invariant
    ]

pub returns : goal.returns
returns c = placed_end c.args.rows.now c.args.tag c.args.reaction c.loop-place.place c.loop-place.steps.items (omega arith) c.loop-place.invariant
