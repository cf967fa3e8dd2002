use Rattle.lft_trace.proofs.TraceFacts.{reaction_there}
use Rattle.lft_trace.proofs.names.read_reaction_of.Goals as goal

pub returns-in-Some-clause-within : goal.returns-in-Some-clause-within
returns-in-Some-clause-within c = reaction_there c.args.names.now c.args.field.now c.in-Some.number c.program-program.ensures.sound c.in-Some.ensures
