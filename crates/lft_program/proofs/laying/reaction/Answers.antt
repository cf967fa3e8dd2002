use Rattle.std.proofs.Common.{refl, subst}
use Rattle.lft_program.specs.inner.Laying.{AreNames, AreTriggersOfCues}
use Rattle.lft_program.proofs.laying.reaction.Goals as goal

pub returns : goal.returns
returns c = record {
  cues = c.cues_of-cues.result.now;
  is_cues = c.cues_of-cues.ensures;
  instance = refl;
  place = refl;
  triggers = subst (λ l. AreTriggersOfCues c.args.nest.now c.args.thing.instance l c.in_ok-triggers.field-0) c.deref.ensures.value c.in_ok-triggers.ensures;
  uses = subst (λ l. AreNames c.args.nest.now c.args.thing.instance l c.in_ok-names.field-0) c.deref-2.ensures.value c.in_ok-names.ensures;
  effects = subst (λ l. AreNames c.args.nest.now c.args.thing.instance l c.in_ok-names-2.field-0) c.deref-3.ensures.value c.in_ok-names-2.ensures;
}
