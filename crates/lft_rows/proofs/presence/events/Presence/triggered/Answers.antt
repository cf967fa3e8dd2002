use Rattle.std.proofs.Common.{refl, arith}
use Rattle.lft_rows.proofs.PresenceLemmas.{Leasts.{at_reaction, trigger_of, triggered_by, not_triggered}, Lists.not_true}
use Rattle.lft_rows.proofs.presence.events.Presence.triggered.Goals as goal

pub occurs-requires : goal.occurs-requires
occurs-requires c = trigger_of c.args.self.now.plan.program c.program-program.ensures.fits.sound.sound c.args.reaction c.reaction.result.now c.as_slice-triggers.result.now c.loop-place.place c.item_at.result (at_reaction c.program-program.result.now c.args.self.now.plan.program c.args.reaction c.reaction.result.now c.program-program.ensures.value c.reaction.ensures.value) c.as_slice-triggers.ensures c.item_at.ensures

pub returns-then-occurs : goal.returns-then-occurs
returns-then-occurs c = (λ e. triggered_by c.args.self.now c.args.tag c.args.reaction c.reaction.result.now c.as_slice-triggers.result.now c.loop-place.place c.item_at.result (at_reaction c.program-program.result.now c.args.self.now.plan.program c.args.reaction c.reaction.result.now c.program-program.ensures.value c.reaction.ensures.value) c.as_slice-triggers.ensures c.item_at.ensures (c.if-occurs.ensures.0 refl), λ e. refl)

pub returns : goal.returns
returns c = (λ e. not_true e, λ x. absurd (not_triggered c.args.self.now c.args.tag c.args.reaction c.loop-place.place c.reaction.result.now c.as_slice-triggers.result.now (at_reaction c.program-program.result.now c.args.self.now.plan.program c.args.reaction c.reaction.result.now c.program-program.ensures.value c.reaction.ensures.value) c.as_slice-triggers.ensures (omega arith) c.loop-place.invariant x))
