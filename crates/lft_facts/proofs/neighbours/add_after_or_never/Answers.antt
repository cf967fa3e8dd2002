use Rattle.lft_facts.proofs.{Added.adds_one, Beside.never_runs}
use Rattle.lft_facts.specs.declared.facts.Fact.TheVariants as fact
use Rattle.lft_facts.specs.declared.facts.Reason.TheVariants as reason
use Rattle.lft_facts.proofs.neighbours.add_after_or_never.Goals as goal

pub returns-in_ok-push-in-None : goal.returns-in_ok-push-in-None
returns-in_ok-push-in-None c b plan p q = adds_one plan c.args.rows.now c.args.facts.now.items c.push-in-None.new.self.items (fact.Reason (reason.NeverRuns c.args.reaction)) c.in_ok-push-in-None.ensures.items (never_runs c.args.rows.now c.args.tag c.args.reaction c.requires.none c.requires.before c.in-None.ensures.none) tt
