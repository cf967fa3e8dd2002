use Rattle.std.proofs.Common.{subst}
use Rattle.lft_model.specs.declared.breach.Breach.{Breach}
use Rattle.lft_log.specs.Explain.Explained.{ExplainsCut}
use Rattle.lft_log.proofs.explain.explaining.reasons_of_log.Goals as goal

pub returns-clause-text : goal.returns-clause-text
returns-clause-text c = subst (λ (b : Breach). ExplainsCut c.args.all c.args.at_end c.args.plan.now c.args.log.now b c.in_ok-text.text.items) c.in-Some.ensures (c.cut_of.new.plan, c.in_ok-rows.rows, c.in_ok-rows.ensures.cut, c.in_ok-text.ensures)
