use Rattle.lft_queue.proofs.ComingLemmas.AtOnce.{lists_empty}
use Rattle.lft_queue.proofs.coming.number_lists.NumberLists.empty.Goals as goal

pub returns-clause-none : goal.returns-clause-none
returns-clause-none c = lists_empty (λ list. list.items) c.loop.lists.items c.loop.invariant.1
