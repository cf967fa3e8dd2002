use Rattle.std.proofs.Common.{◌≡◌, sym, ap, ◌∙◌, refl, false, true}
use Rattle.lft_rows.proofs.AnswersLemmas.Stepping.{none_yet, step_more, step_past, all_steps}
use Rattle.lft_rows.proofs.answers.steps.read_steps.Goals.{then-is_of_run+in_ok-push+else-is_end, else-is_of_run}
use Rattle.lft_rows.proofs.answers.steps.read_steps.Goals as goal

pub loop-at-init : goal.loop-at-init
loop-at-init c = c.clear.ensures.items ∙ sym (none_yet c.requires.rules.0 c.args.rows.now c.requires.rules.1 c.args.place c.args.start c.requires.row c.requires.starts)

pub returns-then-is_end : goal.returns-then-is_end
returns-then-is_end c =
    let here = c.if-is_of_run.ensures.0 refl in
    let row = c.row_at-row in
    c.in_ok-push.ensures.items ∙ step_more c.requires.rules.0 c.args.rows.now c.requires.rules.1 c.args.place c.args.start c.requires.row c.requires.starts c.loop-at.at row.result c.loop-at.steps.items row.ensures here c.loop-at.invariant ∙ all_steps c.requires.rules.0 c.args.rows.now c.requires.rules.1 c.args.place c.args.start c.requires.row c.requires.starts c.loop-at.at row.result row.ensures here (c.if-is_end.ensures.0 refl) c.loop-at.auto.at

pub loop-at-preserved : goal.loop-at-preserved
loop-at-preserved c =
    let row = c.row_at-row in
    elim c.if-is_of_run.branch [
      | then-is_of_run+in_ok-push+else-is_end w ↦ ap (λ v. v.items) w.steps-is ∙ w.in_ok-push.ensures.items ∙ step_more c.requires.rules.0 c.args.rows.now c.requires.rules.1 c.args.place c.args.start c.requires.row c.requires.starts c.loop-at.at row.result c.loop-at.steps.items row.ensures (w.if-is_of_run.ensures.0 refl) c.loop-at.invariant
      | else-is_of_run w ↦ ap (λ v. v.items) w.steps-is ∙ step_past c.requires.rules.0 c.args.rows.now c.requires.rules.1 c.args.place c.args.start c.requires.row c.requires.starts c.loop-at.at row.result c.loop-at.steps.items row.ensures (λ d. let z : ◌≡◌ false true = w.if-is_of_run.ensures.1 d in absurd (cc)) c.loop-at.invariant
    ]
