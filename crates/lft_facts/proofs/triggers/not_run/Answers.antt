use Rattle.std.proofs.Common.{rules}
use Rattle.lft_facts.proofs.Giving.{not_run_gives, not_run_holds, not_run_own}
use Rattle.lft_facts.proofs.triggers.not_run.Goals as goal

pub returns-clause-enough : goal.returns-clause-enough
returns-clause-enough c = not_run_gives c.args.tag c.args.reaction c.present_trigger-trigger.result.0 c.present_trigger-trigger.result.1 c.push-3.new.self.items (search rules) c.present_trigger-trigger.ensures.gives

pub returns-clause-holds : goal.returns-clause-holds
returns-clause-holds c = not_run_holds c.args.plan.now c.args.rows.now c.args.tag c.args.reaction c.present_trigger-trigger.result.0 c.present_trigger-trigger.result.1 c.push-3.new.self.items (search rules) c.requires.triggered c.requires.none c.present_trigger-trigger.ensures.trigger c.present_trigger-trigger.ensures.holds

pub returns-clause-own : goal.returns-clause-own
returns-clause-own c = not_run_own c.args.tag c.args.reaction c.present_trigger-trigger.result.0 c.present_trigger-trigger.result.1 c.push-3.new.self.items (search rules)
