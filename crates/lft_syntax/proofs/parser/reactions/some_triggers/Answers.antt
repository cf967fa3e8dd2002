use Rattle.lft_syntax.proofs.parser.reactions.some_triggers.Goals as goal

pub returns-clause-stand : goal.returns-clause-stand
returns-clause-stand c = c.more_triggers.ensures.stand c.args.at c.in_ok-first.ensures.stands
