use Rattle.lft_pool.proofs.Lists.{zero_lengths}
use Rattle.lft_pool.proofs.bodies.Bodies.new.Goals as goal

pub returns-clause-empty : goal.returns-clause-empty
returns-clause-empty g c = zero_lengths (λ q. q.1) c.loop-reaction.lists.items (λ r d low. (c.loop-reaction.invariant.1 r d low).1)
