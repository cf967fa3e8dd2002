use Rattle.std.proofs.Common.{arith}
use Rattle.std.proofs.lemmas.{Grind.common_steps, List.{map-set, get_or-map}}
use Rattle.lft_pool.proofs.bodies.Bodies.put_many.Goals as goal

pub returns-in-Ok-clause-ok : goal.returns-in-Ok-clause-ok
returns-in-Ok-clause-ok g c = grind (arith, common_steps, map-set, get_or-map)
