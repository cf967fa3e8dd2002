use Rattle.std.proofs.Common.{rules, arith, ◌∙◌}
use Rattle.std.proofs.{lemmas.{Grind.common_steps, List.{map-set, get_or-map}}, Math.Seq.map-set_same}
use Rattle.lft_pool.proofs.bodies.Bodies.put.Goals as goal

pub returns-in-Ok-clause-ok : goal.returns-in-Ok-clause-ok
returns-in-Ok-clause-ok g c = grind (arith, common_steps, map-set, get_or-map)

pub returns-in-Err-clause-err : goal.returns-in-Err-clause-err
returns-in-Err-clause-err g c = (
  map-set_same (λ q. q.1) c.self.inside.lists.items c.reaction-place.result c.put.new.self c.index_mut.result.now (search rules) ∙ c.self.view_is,
  search rules,
)
