use Rattle.std.proofs.Common.{rules}
use Rattle.lft_facts.proofs.Clashes.{clash_gives, clash_own}
use Rattle.lft_facts.proofs.collision.collision.Goals as goal

pub returns-clause-enough : goal.returns-clause-enough
returns-clause-enough c = clash_gives c.args.tag c.two_causes-first.result.0 c.two_causes-first.result.1 c.push.new.self.items (search rules) c.two_causes-first.ensures.gives

pub returns-clause-own : goal.returns-clause-own
returns-clause-own c = clash_own c.args.tag c.two_causes-first.result.0 c.two_causes-first.result.1 c.push.new.self.items (search rules)
