use Rattle.std.proofs.Common.{rules}
use Rattle.lft_facts.proofs.Added.{adds_one, adds_both}
use Rattle.lft_facts.specs.declared.facts.Fact.TheVariants as fact
use Rattle.lft_facts.specs.declared.facts.Reason.TheVariants as reason
use Rattle.lft_facts.proofs.neighbours.add_runs.Goals as goal

pub returns-in_ok-add_after-in-Some : goal.returns-in_ok-add_after-in-Some
returns-in_ok-add_after-in-Some c b plan p q = adds_both plan c.args.rows.now c.args.facts.now.items c.push.new.self.items c.add_after.new.facts.items (adds_one plan c.args.rows.now c.args.facts.now.items c.push.new.self.items (fact.Reason (reason.RunBefore c.args.tag c.args.reaction c.in-Some.at c.in-Some.start)) c.in_ok-push-in-Some.ensures.items (search rules) (p, q)) (c.in_ok-add_after-in-Some.ensures b plan p q)
