use Rattle.std.proofs.Common.{◌+◌, ap, ◌∙◌}
use Rattle.lft_facts.{specs.Enough.wrong_row, proofs.Asking.{of_rows, own_of_row}}
use Rattle.std.proofs.lemmas.Result.{on_ok_weaker}
use Rattle.lft_facts.proofs.row_reasons.add_row_reasons.Goals as goal

pub returns-in-AfterStop : goal.returns-in-AfterStop
returns-in-AfterStop c = on_ok_weaker c.add.result (λ told b p. told b c.args.plan.now c.args.rows.now c.stop_reason.ensures.holds (c.stop_reason.ensures.own b)) c.add.ensures.adds

pub returns-in-NotOpen : goal.returns-in-NotOpen
returns-in-NotOpen c = on_ok_weaker c.add_of_order.result (λ told b p. told b c.args.plan.now (p ∙ ap (λ f. wrong_row f + 2) c.in-NotOpen.is)) c.add_of_order.ensures

pub returns-in-Unended : goal.returns-in-Unended
returns-in-Unended c = on_ok_weaker c.add_of_end.result (λ told b p. told b c.args.plan.now (p ∙ ap (λ f. wrong_row f + 2) c.in-Unended.is)) c.add_of_end.ensures

pub returns-in-NotInput : goal.returns-in-NotInput
returns-in-NotInput c = on_ok_weaker c.add_of_inputs.result (λ told b p. told b) c.add_of_inputs.ensures

pub returns-in-NotEffect : goal.returns-in-NotEffect
returns-in-NotEffect c = on_ok_weaker c.add_of_effects.result (λ told b p. told b) c.add_of_effects.ensures

pub returns-in-Late : goal.returns-in-Late
returns-in-Late c = on_ok_weaker c.add-in-Late.result (λ told b p. told b c.args.plan.now c.args.rows.now (of_rows c.across.result c.args.plan.now c.args.rows.now c.across.ensures.holds) (own_of_row c.across.result b c.in-Late.row (p ∙ ap (λ f. wrong_row f + 2) c.in-Late.is) c.across.ensures.own)) c.add-in-Late.ensures.adds
