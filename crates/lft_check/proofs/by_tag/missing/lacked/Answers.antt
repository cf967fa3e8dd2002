use Rattle.std.proofs.Common.{arith}
use Rattle.lft_rows.proofs.PresenceLemmas.Needing.{needed_known, needed_triggers}
use Rattle.lft_check.proofs.ByTagLemmas.Missed.{lacked_more, lacked_all}
use Rattle.lft_check.proofs.by_tag.missing.lacked.Goals as goal

pub lacked_trigger-requires-clause-trigger : goal.lacked_trigger-requires-clause-trigger
lacked_trigger-requires-clause-trigger c = needed_known c.args.presence.now.plan.program c.program.ensures.fits.sound.sound c.args.reaction c.loop-place.place c.args.triggers.now c.item_at-trigger.result c.requires.triggers c.item_at-trigger.ensures

pub lacked_trigger-requires-clause-triggers : goal.lacked_trigger-requires-clause-triggers
lacked_trigger-requires-clause-triggers c g occurs = needed_triggers c.args.presence.now g c.args.reaction c.loop-place.place c.args.triggers.now c.item_at-trigger.result c.requires.triggers c.item_at-trigger.ensures occurs

pub loop-place-preserved : goal.loop-place-preserved
loop-place-preserved c =
    record {
      known = c.lacked_trigger.ensures.known;
      least = lacked_more c.args.presence.now c.args.triggers.now c.loop-place.place c.args.low c.args.tags.now c.item_at-trigger.result c.loop-place.least c.lacked_trigger.result c.sooner-least.result c.item_at-trigger.ensures c.loop-place.invariant.least c.lacked_trigger.ensures.least c.sooner-least.ensures;
    }

pub returns-clause-least : goal.returns-clause-least
returns-clause-least c = lacked_all c.args.presence.now c.args.reaction c.loop-place.place c.args.low c.args.tags.now c.args.triggers.now c.loop-place.least c.requires.triggers (omega arith) c.loop-place.invariant.least
