use Rattle.std.proofs.Common.{inl, inr, subst}
use Rattle.lft_graph.specs.Precedence.{IsDeclaredFirst, Feeds, Precedes.one}
use Rattle.lft_facts.specs.{declared.facts.Fact.Fact, Facts.{IsFact, FeedsBy}}
use Rattle.lft_facts.proofs.passing.ends_of.Goals as goal

pub returns-in-DeclaredFirst : goal.returns-in-DeclaredFirst
returns-in-DeclaredFirst c plan t holds = let d : IsDeclaredFirst plan.program c.in-DeclaredFirst.first c.in-DeclaredFirst.second = subst (λ (f : Fact). IsFact plan t f) c.in-DeclaredFirst.is holds in one (inl d)

pub returns-in-Feeds : goal.returns-in-Feeds
returns-in-Feeds c plan t holds =
    let f : FeedsBy plan.program c.in-Feeds.writer c.in-Feeds.reader _ = subst (λ (f : Fact). IsFact plan t f) c.in-Feeds.is holds in
    let d : Feeds plan.program c.in-Feeds.writer c.in-Feeds.reader = record { writer = f.writer; reader = f.reader; is_writer = f.is_writer; is_reader = f.is_reader; origin = f.origin; port = _; is_effect = f.is_effect; is_input = f.is_input; undelayed = f.undelayed } in
    one (inr d)
