use Rattle.std.proofs.Common.{refl, ◌∙◌}
use Rattle.lft_classes.specs.inner.Chains.{base_of, bases_from}
use Rattle.lft_classes.proofs.chains.chain.Goals as goal

pub visits-preserved : goal.visits-preserved
visits-preserved c = record { walk = c.in_ok-step.ensures.walk c.args.class c.visits.invariant.walk; order = c.in_ok-step.ensures.order c.args.class c.visits.invariant.walk c.visits.invariant.order; main = c.in_ok-step.ensures.main ∙ c.visits.invariant.main }

pub visits-init : goal.visits-init
visits-init c = record { walk = c.in_ok-walk.ensures.walk (base_of c.args.scopes.now); order = c.in_ok-walk.ensures.order (bases_from c.args.scopes.now); main = refl }

pub returns-clause-list : goal.returns-clause-list
returns-clause-list c =
    let over = c.in_ok-step.ensures.over c.if-not-branch.true in
    let before = c.visits.invariant in
    record {
      all = c.into_listed.ensures.list (base_of c.args.scopes.now) c.args.class over (c.in_ok-step.ensures.walk c.args.class before.walk);
      in_order = c.into_listed.ensures.order (bases_from c.args.scopes.now) c.args.class over (c.in_ok-step.ensures.order c.args.class before.walk before.order);
    }

pub returns-clause-main : goal.returns-clause-main
returns-clause-main c = c.in_ok-step.ensures.main ∙ c.visits.invariant.main
