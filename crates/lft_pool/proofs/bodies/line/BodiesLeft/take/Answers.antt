use Rattle.std.proofs.Common.{ap, ◌∙◌, ◌++◌, ◌≤◌, subst}
use Rattle.std.specs.Option.{option_to_list}
use Rattle.lft_pool.proofs.Lists.{behind_first}
use Rattle.lft_pool.proofs.bodies.line.BodiesLeft.take.Goals as goal

pub invariant_of-self-else-count-gt1 : goal.invariant_of-self-else-count-gt1
invariant_of-self-else-count-gt1 g c =
    behind_first (λ s. s.0) (λ s. s.1) c.self.inside.left c.self.inside.reaction c.unwrap.result c.index.result.now c.pop_front.new.self.items c.self.inside.runs.items
    (c.pop_front.ensures.items ∙ ap (λ o. option_to_list o ++ c.pop_front.new.self.items) c.unwrap.ensures)
    c.index.ensures
    (subst (λ n. n ≤ 1) c.count.ensures c.if-count-gt1.false)
    c.self.invariant.0
    c.self.invariant.1
