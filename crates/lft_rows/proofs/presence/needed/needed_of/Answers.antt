use Rattle.lft_rows.proofs.PresenceLemmas.Leasts.{trigger_of}
use Rattle.lft_rows.proofs.presence.needed.needed_of.Goals as goal

pub needed_triggers-requires : goal.needed_triggers-requires
needed_triggers-requires c k x e = trigger_of c.args.program.now c.reaction.ensures.sound c.args.reaction c.reaction.result.now c.as_slice-triggers.result.now k x c.reaction.ensures.value c.as_slice-triggers.ensures e
