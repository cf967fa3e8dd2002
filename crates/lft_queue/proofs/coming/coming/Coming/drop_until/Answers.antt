use Rattle.std.proofs.Common.{◌++◌, ap, ◌∙◌, List, Option, option_to_list}
use Rattle.lft_ir.specs.declared.parts.Value.{Value}
use Rattle.lft_queue.{specs.{Pending.{Pending, value_of}, inner.Coming.Coming.given_from}, proofs.Dropping.later_value}
use Rattle.lft_queue.proofs.coming.coming.Coming.drop_until.Goals as goal

pub returns-clause-same : goal.returns-clause-same
returns-clause-same c = λ events h n b.
    let e = ap (λ (q : List Pending). value_of h n q) c.drop_until.ensures ∙ later_value c.args.tag h n b c.args.self.now.queue in
    ap (λ (o : Option Value). given_from events c.args.self.now.next h n ++ option_to_list o) e
