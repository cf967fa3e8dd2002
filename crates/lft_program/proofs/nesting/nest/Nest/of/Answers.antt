use Rattle.std.proofs.Common.{Err, ap, length, map, subst, ◌∙◌}
use Rattle.lft_resolve.specs.inner.Expansion.{Children.AreChildren, Contents.{IsWalk, contained}, Values.{HaveValues, LeadToValues}}
use Rattle.lft_resolve.specs.Expansion.Paths.{Exists, IsMoreThan}
use Rattle.lft_program.specs.{inner.Limits.IsFull, declared.nesting.limits.LimitedKind.TheVariants.{Reactions, Ports, Connections, Actions, Timers}}
use Rattle.lft_program.proofs.WholeNest.{action_counts, excess_of_actions, excess_of_instances, excess_of_joins, excess_of_ports, excess_of_reactions, excess_of_timers, is_nest, join_counts, none_here, not_too_many, numbered_here, passed_here, port_counts, reaction_counts, same_fault, timer_counts}
use Rattle.lft_program.proofs.nesting.nest.Nest.of.Goals as goal

pub returns-in_err-instances-clause-too_many : goal.returns-in_err-instances-clause-too_many
returns-in_err-instances-clause-too_many c x e tree are lawful =
    let f = same_fault c.from_residual.result c.in_err-instances.field-0.0 _ c.from_residual.ensures.1 e in
    excess_of_instances tree c.args.tables.now are lawful x (subst (λ l. IsFull l c.args.tables.now.main x) c.deref.ensures.value (c.in_err-instances.ensures.too_many x (ap Err f)))

pub returns-in_err-reactions-clause-too_many : goal.returns-in_err-reactions-clause-too_many
returns-in_err-reactions-clause-too_many c x e tree are lawful =
    let tables = c.args.tables.now in
    let instances = c.in_ok-instances.instances.items in
    let walk = subst (λ l. IsWalk l tables.main instances) c.deref.ensures.value c.in_ok-instances.ensures.walk in
    let f = same_fault c.from_residual-in_err-reactions.result c.in_err-reactions.field-0.0 _ c.from_residual-in_err-reactions.ensures.1 e in
    let counted = c.in_ok-counts.ensures ∙ ap (map (λ x. length x.reactions.items)) c.deref-2.ensures.value in
    excess_of_reactions tree tables are lawful instances walk x (passed_here Reactions instances c.deref-3.result.now (reaction_counts tables) c.in_ok-counts.counts.items x c.deref-3.ensures.value counted (c.in_err-reactions.ensures.too_many x (ap Err f)))

pub returns-in_err-ports-clause-too_many : goal.returns-in_err-ports-clause-too_many
returns-in_err-ports-clause-too_many c x e tree are lawful =
    let tables = c.args.tables.now in
    let instances = c.in_ok-instances.instances.items in
    let walk = subst (λ l. IsWalk l tables.main instances) c.deref.ensures.value c.in_ok-instances.ensures.walk in
    let f = same_fault c.from_residual-in_err-ports.result c.in_err-ports.field-0.0 _ c.from_residual-in_err-ports.ensures.1 e in
    let counted = c.in_ok-counts-2.ensures ∙ ap (map (λ x. length x.inputs.items)) c.deref-4.ensures.value in
    excess_of_ports tree tables are lawful instances walk x (passed_here Ports instances c.deref-5.result.now (port_counts tables) c.in_ok-counts-2.counts.items x c.deref-5.ensures.value counted (c.in_err-ports.ensures.too_many x (ap Err f)))

pub returns-in_err-numbered-clause-too_many : goal.returns-in_err-numbered-clause-too_many
returns-in_err-numbered-clause-too_many c x e tree are lawful =
    let tables = c.args.tables.now in
    let instances = c.in_ok-instances.instances.items in
    let walk = subst (λ l. IsWalk l tables.main instances) c.deref.ensures.value c.in_ok-instances.ensures.walk in
    let f = same_fault c.from_residual-in_err-numbered.result c.in_err-numbered.field-0.0 _ c.from_residual-in_err-numbered.ensures.1 e in
    let counted = c.in_ok-counts-3.ensures ∙ ap (map (λ x. length x.joins.items)) c.deref-6.ensures.value in
    excess_of_joins tree tables are lawful instances walk x (passed_here Connections instances c.deref-7.result.now (join_counts tables) c.in_ok-counts-3.counts.items x c.deref-7.ensures.value counted (c.in_err-numbered.ensures.too_many x (ap Err f)))

pub returns-in_err-actions-clause-too_many : goal.returns-in_err-actions-clause-too_many
returns-in_err-actions-clause-too_many c x e tree are lawful =
    let tables = c.args.tables.now in
    let instances = c.in_ok-instances.instances.items in
    let walk = subst (λ l. IsWalk l tables.main instances) c.deref.ensures.value c.in_ok-instances.ensures.walk in
    let f = same_fault c.from_residual-in_err-actions.result c.in_err-actions.field-0.0 _ c.from_residual-in_err-actions.ensures.1 e in
    let counted = c.in_ok-counts-4.ensures ∙ ap (map (λ x. length x.actions.items)) c.deref-8.ensures.value in
    excess_of_actions tree tables are lawful instances walk x (passed_here Actions instances c.deref-9.result.now (action_counts tables) c.in_ok-counts-4.counts.items x c.deref-9.ensures.value counted (c.in_err-actions.ensures.too_many x (ap Err f)))

pub returns-in_err-timers-clause-too_many : goal.returns-in_err-timers-clause-too_many
returns-in_err-timers-clause-too_many c x e tree are lawful =
    let tables = c.args.tables.now in
    let instances = c.in_ok-instances.instances.items in
    let walk = subst (λ l. IsWalk l tables.main instances) c.deref.ensures.value c.in_ok-instances.ensures.walk in
    let f = same_fault c.from_residual-in_err-timers.result c.in_err-timers.field-0.0 _ c.from_residual-in_err-timers.ensures.1 e in
    let counted = c.in_ok-counts-5.ensures ∙ ap (map (λ x. length x.timers.items)) c.deref-10.ensures.value in
    excess_of_timers tree tables are lawful instances walk x (passed_here Timers instances c.deref-11.result.now (timer_counts tables) c.in_ok-counts-5.counts.items x c.deref-11.ensures.value counted (c.in_err-timers.ensures.too_many x (ap Err f)))

pub returns-clause-within : goal.returns-clause-within
returns-clause-within c tree are lawful =
    let tables = c.args.tables.now in
    let instances = c.in_ok-instances.instances.items in
    let contents = tables.contents.items in
    let walk = subst (λ l. IsWalk l tables.main instances) c.deref.ensures.value c.in_ok-instances.ensures.walk in
    not_too_many tree tables are lawful (subst (λ l. IsMoreThan (Exists (contained l) tables.main) 10000 → ⊥) c.deref.ensures.value c.in_ok-instances.ensures.within)
    (none_here contents tables.main 10000 instances c.deref-3.result.now (reaction_counts tables) c.in_ok-counts.counts.items walk c.deref-3.ensures.value (c.in_ok-counts.ensures ∙ ap (map (λ x. length x.reactions.items)) c.deref-2.ensures.value) c.in_ok-reactions.ensures.within)
    (none_here contents tables.main 100000 instances c.deref-5.result.now (port_counts tables) c.in_ok-counts-2.counts.items walk c.deref-5.ensures.value (c.in_ok-counts-2.ensures ∙ ap (map (λ x. length x.inputs.items)) c.deref-4.ensures.value) c.in_ok-ports.ensures.within)
    (none_here contents tables.main 100000 instances c.deref-7.result.now (join_counts tables) c.in_ok-counts-3.counts.items walk c.deref-7.ensures.value (c.in_ok-counts-3.ensures ∙ ap (map (λ x. length x.joins.items)) c.deref-6.ensures.value) c.in_ok-numbered.ensures.within)
    (none_here contents tables.main 100000 instances c.deref-9.result.now (action_counts tables) c.in_ok-counts-4.counts.items walk c.deref-9.ensures.value (c.in_ok-counts-4.ensures ∙ ap (map (λ x. length x.actions.items)) c.deref-8.ensures.value) c.in_ok-actions.ensures.within)
    (none_here contents tables.main 100000 instances c.deref-11.result.now (timer_counts tables) c.in_ok-counts-5.counts.items walk c.deref-11.ensures.value (c.in_ok-counts-5.ensures ∙ ap (map (λ x. length x.timers.items)) c.deref-10.ensures.value) c.in_ok-timers.ensures.within)

pub returns-clause-nest : goal.returns-clause-nest
returns-clause-nest c tree are lawful =
    let tables = c.args.tables.now in
    let instances = c.in_ok-instances.instances.items in
    let contents = tables.contents.items in
    let walk = subst (λ l. IsWalk l tables.main instances) c.deref.ensures.value c.in_ok-instances.ensures.walk in
    let children = subst (λ l. AreChildren l c.in_ok-of.field-0) c.deref-12.ensures.value c.in_ok-of.ensures in
    let have = subst (λ l. HaveValues tables.parameters.items l c.in_ok-of-2.field-0) c.deref-14.ensures.value (subst (λ p. HaveValues p c.deref-14.result.now c.in_ok-of-2.field-0) c.deref-13.ensures.value c.in_ok-of-2.ensures.values) in
    let lead = subst (λ l. LeadToValues contents tables.parameters.items tables.main l c.in_ok-of-2.field-0) c.deref-14.ensures.value (subst (λ p. LeadToValues contents p tables.main c.deref-14.result.now c.in_ok-of-2.field-0) c.deref-13.ensures.value (c.in_ok-of-2.ensures.paths contents tables.main)) in
    is_nest tree tables are lawful _ walk c.in_ok-instances.ensures.few children have lead
    (numbered_here instances c.deref-5.result.now (port_counts tables) c.in_ok-counts-2.counts.items 100000 c.in_ok-ports.ports c.deref-5.ensures.value (c.in_ok-counts-2.ensures ∙ ap (map (λ x. length x.inputs.items)) c.deref-4.ensures.value) (ap (λ v. v.items) c.in_ok-ports.ensures.counts) c.in_ok-ports.ensures.firsts c.in_ok-ports.ensures.few)
    (numbered_here instances c.deref-11.result.now (timer_counts tables) c.in_ok-counts-5.counts.items 100000 c.in_ok-timers.timers c.deref-11.ensures.value (c.in_ok-counts-5.ensures ∙ ap (map (λ x. length x.timers.items)) c.deref-10.ensures.value) (ap (λ v. v.items) c.in_ok-timers.ensures.counts) c.in_ok-timers.ensures.firsts c.in_ok-timers.ensures.few)
    (numbered_here instances c.deref-9.result.now (action_counts tables) c.in_ok-counts-4.counts.items 100000 c.in_ok-actions.actions c.deref-9.ensures.value (c.in_ok-counts-4.ensures ∙ ap (map (λ x. length x.actions.items)) c.deref-8.ensures.value) (ap (λ v. v.items) c.in_ok-actions.ensures.counts) c.in_ok-actions.ensures.firsts c.in_ok-actions.ensures.few)
    (numbered_here instances c.deref-3.result.now (reaction_counts tables) c.in_ok-counts.counts.items 10000 c.in_ok-reactions.reactions c.deref-3.ensures.value (c.in_ok-counts.ensures ∙ ap (map (λ x. length x.reactions.items)) c.deref-2.ensures.value) (ap (λ v. v.items) c.in_ok-reactions.ensures.counts) c.in_ok-reactions.ensures.firsts c.in_ok-reactions.ensures.few)
