use Rattle.std.proofs.Common.{◌≡◌, Some, sym, ap, ◌∙◌}
use Rattle.lft_facts.proofs.Upstream.{direct_of, nearer, chain_more, chain_ends}
use Rattle.lft_facts.proofs.chain.chain.Goals as goal

pub step-requires-clause-direct : goal.step-requires-clause-direct
step-requires-clause-direct c = direct_of c.args.plan.now.program c.args.graph.now c.requires.graph c.loop-after.at c.in-Some.after (c.requires.ways.steps c.loop-after.at c.in-Some.after (c.next_at.ensures ∙ ap Some c.in-Some.is)).0

pub loop-after-smaller : goal.loop-after-smaller
loop-after-smaller c = nearer c.args.plan.now.program c.args.graph.now c.requires.graph c.args.last c.args.next.now c.requires.ways c.loop-after.at c.in-Some.after (c.next_at.ensures ∙ ap Some c.in-Some.is)

pub loop-after-preserved : goal.loop-after-preserved
loop-after-preserved c = chain_more c.args.plan.now c.args.graph.now c.args.next.now c.args.first c.args.last c.requires.ways c.loop-after.facts.items c.loop-after.at c.in-Some.after c.step.result c.push.new.self.items c.loop-after.invariant (c.next_at.ensures ∙ ap Some c.in-Some.is) c.step.ensures.holds c.step.ensures.gives c.step.ensures.own c.in_ok-push.ensures.items

pub returns-clause-gives : goal.returns-clause-gives
returns-clause-gives c = chain_ends c.args.plan.now c.args.graph.now c.args.next.now c.args.first c.args.last c.loop-after.facts.items c.loop-after.at c.loop-after.invariant (λ m. c.in_default.not-Some m.0 (let z : Some c.next_at.result ≡ Some (Some m.0) = sym c.next_at.ensures ∙ m.1 in cc))
