use Rattle.std.proofs.Common.{arith}
use Rattle.lft_facts.proofs.Fed.{fed_by, trigger_input, trigger_known, use_input, use_known, not_fed}
use Rattle.lft_facts.proofs.feeding.feeding_port.Goals as goal

pub fed_port-port-requires : goal.fed_port-port-requires
fed_port-port-requires c = trigger_known c.args.program.now c.reaction.ensures.sound c.args.first c.args.second c.reaction.result.now c.reaction-reader.result.now c.reaction.ensures.value c.reaction-reader.ensures.value c.as_slice-effects.result.now c.as_slice-effects.ensures c.as_slice-triggers.result.now c.as_slice-triggers.ensures c.loop-place.place c.item_at.result c.in-On.name c.item_at.ensures c.in-On.is

pub returns-then-is_some-clause-some : goal.returns-then-is_some-clause-some
returns-then-is_some-clause-some c = fed_by c.args.program.now c.reaction.ensures.sound c.args.first c.args.second c.reaction.result.now c.reaction-reader.result.now c.reaction.ensures.value c.reaction-reader.ensures.value c.as_slice-effects.result.now c.as_slice-effects.ensures c.in-On.name (trigger_input c.args.program.now c.reaction.ensures.sound c.args.first c.args.second c.reaction.result.now c.reaction-reader.result.now c.reaction.ensures.value c.reaction-reader.ensures.value c.as_slice-effects.result.now c.as_slice-effects.ensures c.as_slice-triggers.result.now c.as_slice-triggers.ensures c.loop-place.place c.item_at.result c.in-On.name c.item_at.ensures c.in-On.is) c.fed_port-port.result c.fed_port-port.ensures.some

pub fed_port-port-requires-in-loop-place-2 : goal.fed_port-port-requires-in-loop-place-2
fed_port-port-requires-in-loop-place-2 c = use_known c.args.program.now c.reaction.ensures.sound c.args.first c.args.second c.reaction.result.now c.reaction-reader.result.now c.reaction.ensures.value c.reaction-reader.ensures.value c.as_slice-effects.result.now c.as_slice-effects.ensures c.as_slice-uses.result.now c.as_slice-uses.ensures c.loop-place-2.place c.item_at-in-loop-place-2.result c.item_at-in-loop-place-2.ensures

pub returns-then-is_some-2-clause-some : goal.returns-then-is_some-2-clause-some
returns-then-is_some-2-clause-some c = fed_by c.args.program.now c.reaction.ensures.sound c.args.first c.args.second c.reaction.result.now c.reaction-reader.result.now c.reaction.ensures.value c.reaction-reader.ensures.value c.as_slice-effects.result.now c.as_slice-effects.ensures c.item_at-in-loop-place-2.result (use_input c.args.program.now c.reaction.ensures.sound c.args.first c.args.second c.reaction.result.now c.reaction-reader.result.now c.reaction.ensures.value c.reaction-reader.ensures.value c.as_slice-effects.result.now c.as_slice-effects.ensures c.as_slice-uses.result.now c.as_slice-uses.ensures c.loop-place-2.place c.item_at-in-loop-place-2.result c.item_at-in-loop-place-2.ensures) c.fed_port-port-in-loop-place-2.result c.fed_port-port-in-loop-place-2.ensures.some

pub returns-clause-none : goal.returns-clause-none
returns-clause-none c = not_fed c.args.program.now c.reaction.ensures.sound c.args.first c.args.second c.reaction.result.now c.reaction-reader.result.now c.reaction.ensures.value c.reaction-reader.ensures.value c.as_slice-effects.result.now c.as_slice-effects.ensures c.as_slice-triggers.result.now c.as_slice-triggers.ensures (λ k n l e. c.loop-place.invariant k n (let a = c.loop-place-test.false in omega arith) e) c.as_slice-uses.result.now c.as_slice-uses.ensures (λ k n l e. c.loop-place-2.invariant k n (let a = c.loop-place-2-test.false in omega arith) e)
