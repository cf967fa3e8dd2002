use Rattle.lft_tree.specs.Tree.{reactors_of}
use Rattle.lft_resolve.proofs.Joined.{lost_nowhere}
use Rattle.lft_resolve.proofs.by_number.cues.reactions.Goals as goal

pub unreachable-requires : goal.unreachable-requires
unreachable-requires c = lost_nowhere (reactors_of c.args.scopes.now) c.requires.0 c.requires.1.0 (c.in-Err.ensures.lost c.in_default.not-NoMemory (reactors_of c.args.scopes.now) c.file.ensures)
