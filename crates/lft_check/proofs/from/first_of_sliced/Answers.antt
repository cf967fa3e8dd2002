use Rattle.lft_check.proofs.from.first_of_sliced.Goals as goal

pub least_of-requires-clause-inner : goal.least_of-requires-clause-inner
least_of-requires-clause-inner c = (c.begin_of-begin.result, c.begin_of-begin.ensures.begin, c.in_ok-inner.ensures)

pub begin_of-begin-requires : goal.begin_of-begin-requires
begin_of-begin-requires c = (c.args.sliced.now.rows, c.slices-slices.ensures)
