use Rattle.lft_program.proofs.FlatSound.{IsSound-from_flat}
use Rattle.lft_program.proofs.assembly.assembled.Goals as goal

pub from_parts-requires : goal.from_parts-requires
from_parts-requires c = IsSound-from_flat c.requires.flat.0 (record { ports = c.args.ports.items; actions = c.args.actions.items; timers = c.args.timers.items; reactions = c.args.reactions.items; names = c.args.names }) c.requires.flat.3 c.requires.flat.1 c.requires.flat.2 c.requires.limits c.requires.distinct c.requires.words
