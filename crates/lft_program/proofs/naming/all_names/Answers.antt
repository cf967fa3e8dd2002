use Rattle.std.proofs.Common.{map, ap, sym, subst, ◌∙◌}
use Rattle.lft_program.specs.inner.Extended.{dotted, extended}
use Rattle.lft_program.proofs.FullNames.{IsReady, rest_of, ready_instances, ready_ports, ready_actions, ready_timers, ready_reactions, all_named}
use Rattle.lft_program.proofs.naming.all_names.Goals as goal

pub add_declared-requires : goal.add_declared-requires
add_declared-requires c =
    let a = c.args in
    let all = ready_instances a.instances.now a.ports.now a.actions.now a.timers.now a.reactions.now c.requires.things c.requires.few c.in_ok-texts.texts c.in_ok-texts.ensures in
    let r = subst (λ l. IsReady c.in_ok-texts.texts (map dotted l)) (sym (rest_of a.instances.now)) all in
    record { after = r.after; distinct = r.distinct }

pub add_declared-requires-2 : goal.add_declared-requires-2
add_declared-requires-2 c =
    let a = c.args in
    let inner = c.in_ok-add_declared.ensures ∙ ap (λ l. extended c.in_ok-texts.texts (map dotted l)) (rest_of a.instances.now) in
    let r = ready_ports a.instances.now a.ports.now a.actions.now a.timers.now a.reactions.now c.requires.things c.requires.few c.in_ok-texts.texts c.in_ok-texts.ensures _ inner in
    record { after = r.after; distinct = r.distinct }

pub add_declared-requires-3 : goal.add_declared-requires-3
add_declared-requires-3 c =
    let a = c.args in
    let inner = c.in_ok-add_declared.ensures ∙ ap (λ l. extended c.in_ok-texts.texts (map dotted l)) (rest_of a.instances.now) in
    let r = ready_actions a.instances.now a.ports.now a.actions.now a.timers.now a.reactions.now c.requires.things c.requires.few c.in_ok-texts.texts c.in_ok-texts.ensures _ inner _ c.in_ok-add_declared-2.ensures in
    record { after = r.after; distinct = r.distinct }

pub add_declared-requires-4 : goal.add_declared-requires-4
add_declared-requires-4 c =
    let a = c.args in
    let inner = c.in_ok-add_declared.ensures ∙ ap (λ l. extended c.in_ok-texts.texts (map dotted l)) (rest_of a.instances.now) in
    let r = ready_timers a.instances.now a.ports.now a.actions.now a.timers.now a.reactions.now c.requires.things c.requires.few c.in_ok-texts.texts c.in_ok-texts.ensures _ inner _ c.in_ok-add_declared-2.ensures _ c.in_ok-add_declared-3.ensures in
    record { after = r.after; distinct = r.distinct }

pub add_placed-requires : goal.add_placed-requires
add_placed-requires c =
    let a = c.args in
    let inner = c.in_ok-add_declared.ensures ∙ ap (λ l. extended c.in_ok-texts.texts (map dotted l)) (rest_of a.instances.now) in
    let r = ready_reactions a.instances.now a.ports.now a.actions.now a.timers.now a.reactions.now c.requires.things c.requires.few c.in_ok-texts.texts c.in_ok-texts.ensures _ inner _ c.in_ok-add_declared-2.ensures _ c.in_ok-add_declared-3.ensures _ c.in_ok-add_declared-4.ensures in
    record { after = r.after; distinct = r.distinct }

pub returns : goal.returns
returns c =
    let a = c.args in
    let inner = c.in_ok-add_declared.ensures ∙ ap (λ l. extended c.in_ok-texts.texts (map dotted l)) (rest_of a.instances.now) in
    all_named a.instances.now a.ports.now a.actions.now a.timers.now a.reactions.now c.requires.things c.requires.few c.in_ok-texts.texts c.in_ok-texts.ensures _ inner _ c.in_ok-add_declared-2.ensures _ c.in_ok-add_declared-3.ensures _ c.in_ok-add_declared-4.ensures _ c.in_ok-add_placed.ensures
