use Rattle.lft_pair.proofs.Giving.{find_enough, find_all, find_holds}
use Rattle.lft_pair.proofs.contrasting.finding.find.Goals as goal

pub returns-clause-holds : goal.returns-clause-holds
returns-clause-holds c = find_holds c.args.plan.now c.as_slice-rows.result.now c.as_slice-others.result.now c.args.first.now c.args.second.now c.as_slice-rows.ensures c.as_slice-others.ensures c.args.tag c.args.reaction c.in_ok-told.told.items c.add_reasons.new.told.items c.from_vec.result c.from_vec.ensures c.in_ok-add_reasons.ensures.holds c.in_ok-told.ensures.all c.in_ok-told.ensures.holds

pub returns-clause-enough : goal.returns-clause-enough
returns-clause-enough c = find_enough c.args.plan.now c.as_slice-rows.result.now c.as_slice-others.result.now c.args.first.now c.args.second.now c.as_slice-rows.ensures c.as_slice-others.ensures c.args.tag c.args.reaction c.in_ok-told.told.items c.add_reasons.new.told.items c.from_vec.result c.from_vec.ensures c.in_ok-add_reasons.ensures.holds c.in_ok-told.ensures.all c.requires.difference.other_answer

pub returns-clause-all : goal.returns-clause-all
returns-clause-all c = find_all c.args.plan.now c.as_slice-rows.result.now c.as_slice-others.result.now c.args.first.now c.args.second.now c.as_slice-rows.ensures c.as_slice-others.ensures c.args.tag c.args.reaction c.in_ok-told.told.items c.add_reasons.new.told.items c.from_vec.result c.from_vec.ensures c.in_ok-add_reasons.ensures.holds c.in_ok-told.ensures.all c.in_ok-add_reasons.ensures.reads
