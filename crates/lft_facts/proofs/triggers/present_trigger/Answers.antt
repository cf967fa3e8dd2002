use Rattle.std.proofs.Common.{◌<◌, length, arith}
use Rattle.lft_facts.proofs.Fed.{any_trigger_known, is_trigger_of, triggered_at}
use Rattle.lft_facts.proofs.triggers.present_trigger.Goals as goal

pub trigger_cause-requires-clause-trigger : goal.trigger_cause-requires-clause-trigger
trigger_cause-requires-clause-trigger c = any_trigger_known c.args.plan.now.program c.program.result.now c.program.ensures.value c.reaction.ensures.sound c.args.reaction c.reaction.result.now c.reaction.ensures.value c.as_slice-triggers.result.now c.as_slice-triggers.ensures c.loop-place.place c.item_at-trigger.result c.item_at-trigger.ensures

pub returns-in-Some-clause-trigger : goal.returns-in-Some-clause-trigger
returns-in-Some-clause-trigger c = is_trigger_of c.args.plan.now.program c.program.result.now c.program.ensures.value c.reaction.ensures.sound c.args.reaction c.reaction.result.now c.reaction.ensures.value c.as_slice-triggers.result.now c.as_slice-triggers.ensures c.loop-place.place c.item_at-trigger.result c.item_at-trigger.ensures

pub unreachable-requires : goal.unreachable-requires
unreachable-requires c =
    let k = triggered_at c.args.plan.now.program c.program.result.now c.program.ensures.value c.reaction.ensures.sound c.args.reaction c.reaction.result.now c.reaction.ensures.value c.as_slice-triggers.result.now c.as_slice-triggers.ensures c.requires.triggered.reaction c.requires.triggered.is_reaction c.requires.triggered.trigger c.requires.triggered.is_trigger in
    let l : k.0 < length c.as_slice-triggers.result.now = k.1 in
    c.loop-place.invariant k.0 c.requires.triggered.trigger (omega arith) k.2 c.requires.triggered.occurs
