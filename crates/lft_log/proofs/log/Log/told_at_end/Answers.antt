use Rattle.lft_log.proofs.log.Log.told_at_end.Goals as goal

pub returns-clause-ended : goal.returns-clause-ended
returns-clause-ended c = c.end_here-told.ensures

pub returns-clause-still_open : goal.returns-clause-still_open
returns-clause-still_open c = c.still_open-still_open.ensures
