use Rattle.std.proofs.lemmas.Result.{on_ok_weaker}
use Rattle.lft_facts.proofs.Asking.{has_inputs}
use Rattle.lft_facts.proofs.row_reasons.add_of_inputs.Goals as goal

pub returns : goal.returns
returns c = on_ok_weaker c.add.result (λ told b. told b c.args.plan.now c.args.rows.now (has_inputs c.args.plan.now.program c.row_at-reaction.result.reaction (c.requires.fit.each c.args.row c.row_at-reaction.result c.row_at-reaction.ensures).reaction) tt) c.add.ensures.adds
