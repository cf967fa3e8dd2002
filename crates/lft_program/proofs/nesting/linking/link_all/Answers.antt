use Rattle.std.proofs.Common.{◌+◌, sym, subst}
use Rattle.lft_program.proofs.Reaching.{Linking, linking_start, linking_more, linking_end}
use Rattle.lft_program.proofs.nesting.linking.link_all.Goals as goal

pub ports-init : goal.ports-init
ports-init c = subst (λ l. Linking c.args.sources.now c.args.reached.now 0 l) (sym c.new-links.ensures.items) (linking_start c.args.sources.now c.args.reached.now)

pub ports-preserved : goal.ports-preserved
ports-preserved c = subst (λ l. Linking c.args.sources.now c.args.reached.now (c.ports.port + 1) l) (sym c.in_ok-push-in-Some.ensures.items) (linking_more c.args.sources.now c.args.reached.now c.ports.port c.ports.links.items c.in-Some.link c.ports.invariant c.ports-test.true c.in-Some.ensures.linked)

pub returns-clause-linked : goal.returns-clause-linked
returns-clause-linked c = linking_end c.args.sources.now c.args.reached.now c.ports.port c.ports.links.items c.ports.invariant c.ports-test.false
