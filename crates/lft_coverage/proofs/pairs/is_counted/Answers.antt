use Rattle.std.proofs.Common.{arith}
use Rattle.lft_coverage.proofs.Tests.{has_room}
use Rattle.lft_coverage.proofs.pairs.is_counted.Goals as goal

pub has_met-requires-clause-reaction : goal.has_met-requires-clause-reaction
has_met-requires-clause-reaction c = omega (arith, c.requires.sets.as_long, c.requires.reaction)

pub has_met-requires-clause-other : goal.has_met-requires-clause-other
has_met-requires-clause-other c =
    let room = has_room c.args.program.now c.args.overlaps.now c.requires.sets c.args.reaction c.requires.reaction in
    let other = c.requires.other in
    omega (arith, room, other)

pub has_met-requires-else-other-reaction-clause-reaction : goal.has_met-requires-else-other-reaction-clause-reaction
has_met-requires-else-other-reaction-clause-reaction c = omega (arith, c.requires.sets.as_long, c.requires.other)

pub has_met-requires-else-other-reaction-clause-other : goal.has_met-requires-else-other-reaction-clause-other
has_met-requires-else-other-reaction-clause-other c =
    let room = has_room c.args.program.now c.args.overlaps.now c.requires.sets c.args.other c.requires.other in
    let reaction = c.requires.reaction in
    omega (arith, room, reaction)
