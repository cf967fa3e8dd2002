use Rattle.std.proofs.Common.{◌≡◌, Any, map, filter_map, flat_map, option_to_list, ap, subst, ◌∙◌}
use Rattle.std.specs.List.{AllZip}
use Rattle.lft_tree.specs.{Tree.{timer_in, action_in, timers_of, actions_of}, View.member_view}
use Rattle.lft_resolve.specs.Kinds.{timer_times}
use Rattle.lft_resolve.specs.inner.{Lacking.LacksPlace, References.{action_trees, port_trees, timer_trees}, Places.place_in}
use Rattle.lft_resolve.specs.inner.Sheets.{IsActionSheet, IsTimerSheet}
use Rattle.lft_resolve.proofs.Lacking.{timer_lacks, action_lacks}
use Rattle.lft_resolve.proofs.by_number.declaring.declarations_of.Goals as goal

pub timer_sheets-requires : goal.timer_sheets-requires
timer_sheets-requires c a =
    let (r, own, none) = c.requires in
    let timers : timer_trees c.deref-4.result.now ≡ timers_of r = ap timer_trees c.deref-4.ensures.value ∙ c.in_ok-own_timers.ensures ∙ ap (λ ms. filter_map timer_in (map member_view ms)) c.deref.ensures.value ∙ ap timers_of own.reactor in
    none (timer_lacks c.args.own.now.parameters r own.parameters (subst (λ l. Any (LacksPlace (place_in c.args.own.now.parameters)) (flat_map timer_times l)) timers a))

pub action_sheets-requires : goal.action_sheets-requires
action_sheets-requires c a =
    let (r, own, none) = c.requires in
    let actions : action_trees c.deref-5.result.now ≡ actions_of r = ap action_trees c.deref-5.ensures.value ∙ c.in_ok-own_actions.ensures ∙ ap (λ ms. filter_map action_in (map member_view ms)) c.deref-2.ensures.value ∙ ap actions_of own.reactor in
    none (action_lacks c.args.own.now.parameters r own.parameters (subst (λ l. Any (LacksPlace (place_in c.args.own.now.parameters)) (flat_map (λ a. option_to_list a.min_delay) l)) actions a))

pub returns : goal.returns
returns c r own =
    let timers : timer_trees c.deref-4.result.now ≡ timers_of r = ap timer_trees c.deref-4.ensures.value ∙ c.in_ok-own_timers.ensures ∙ ap (λ ms. filter_map timer_in (map member_view ms)) c.deref.ensures.value ∙ ap timers_of own.reactor in
    let actions : action_trees c.deref-5.result.now ≡ actions_of r = ap action_trees c.deref-5.ensures.value ∙ c.in_ok-own_actions.ensures ∙ ap (λ ms. filter_map action_in (map member_view ms)) c.deref-2.ensures.value ∙ ap actions_of own.reactor in
    record {
      inputs = c.in_ok-port_inputs.ensures ∙ ap (λ l. map (λ x. x.is_input) (port_trees l)) c.deref-3.ensures.value ∙ ap (map (λ x. x.is_input)) own.declared_ports;
      timers = subst (λ l. AllZip (IsTimerSheet r) l c.in_ok-timer_sheets.field-0.items) timers (c.in_ok-timer_sheets.ensures r own.parameters);
      actions = subst (λ l. AllZip (IsActionSheet r) l c.in_ok-action_sheets.field-0.items) actions (c.in_ok-action_sheets.ensures r own.parameters);
    }
