use Rattle.lft_load.{specs.Refusals.LoadRefusal.{by_program, by_plan}, proofs.Loading.{only_plan, under}}
use Rattle.lft_load.proofs.layers.load.Goals as goal

pub returns-in-Err-clause-refused : goal.returns-in-Err-clause-refused
returns-in-Err-clause-refused c = by_program c.in-Err.ensures.refused

pub returns-in-Err-clause-none : goal.returns-in-Err-clause-none
returns-in-Err-clause-none c = λ t plan x. c.in-Err.ensures.none t plan.program x.is_program

pub returns-in-Ok-plan_of-clause-plan : goal.returns-in-Ok-plan_of-clause-plan
returns-in-Ok-plan_of-clause-plan c = only_plan c.args.program.now c.args.externals.now c.in-Ok.flat c.in-Ok.ensures.program c.in-Ok-plan_of.plan c.in-Ok-plan_of.ensures.plan

pub returns-in-Err-plan_of-clause-refused : goal.returns-in-Err-plan_of-clause-refused
returns-in-Err-plan_of-clause-refused c = by_plan c.in-Ok.flat c.in-Ok.ensures.program.is c.in-Err-plan_of.ensures.refused

pub returns-in-Err-plan_of-clause-none : goal.returns-in-Err-plan_of-clause-none
returns-in-Err-plan_of-clause-none c = λ t plan x. c.in-Err-plan_of.ensures.none t plan (under c.args.program.now c.args.externals.now c.in-Ok.flat c.in-Ok.ensures.program plan x)
