use Rattle.std.proofs.Common.{◌≡◌, map, ap, ◌∙◌}
use Rattle.lft_tree.specs.Tree.{reactors_of, ports_of, actions_of, timers_of, reactions_of}
use Rattle.lft_program.specs.inner.{OwnNames.{name_lists, own_names}, TreeLists.{name_at, placed_at}}
use Rattle.lft_program.proofs.KindNames.{told_as, placed_told, own_ports, own_actions, own_timers}
use Rattle.lft_resolve.specs.inner.References.{reactor_trees}
use Rattle.lft_program.specs.declared.own_names.MemberKind.TheVariants as kinds
use Rattle.lft_program.proofs.tree_lists.Lists.of.Goals as goal

pub returns : goal.returns
returns c tree tables n same =
    let rs = reactors_of tree in
    let made = c.as_slice-instances.ensures.value in
    let names : name_lists c.deref.result.now ≡ map (own_names kinds.Instance) rs = ap name_lists c.deref.ensures.value ∙ c.in_ok-names.ensures ∙ ap (map (own_names kinds.Instance)) same in
    record {
      instances = c.in_ok-contained.ensures
          ∙ ap (λ l. map (λ i. (i.parent, name_at l c.as_slice-instances.result.now i.parent i.place)) c.as_slice-instances.result.now) names
          ∙ ap (λ l. map (λ i. (i.parent, name_at (map (own_names kinds.Instance) rs) l i.parent i.place)) l) made;
      ports = told_as rs n.located c.args.nest.now.instances.items n.instances ports_of (λ x. x.name) (own_names kinds.Port) own_ports (reactor_trees c.args.reactors.now) same c.as_slice-instances.result.now made c.deref-2.result.now c.in_ok-ports.ports.items c.deref-2.ensures.value (c.in_ok-ports.ensures tree tables n) c.in_ok-declared_of.field-0.items c.in_ok-declared_of.ensures;
      actions = told_as rs n.located c.args.nest.now.instances.items n.instances actions_of (λ x. x.name) (own_names kinds.Action) own_actions (reactor_trees c.args.reactors.now) same c.as_slice-instances.result.now made c.deref-3.result.now c.in_ok-actions.actions.items c.deref-3.ensures.value (c.in_ok-actions.ensures tree tables n) c.in_ok-declared_of-2.field-0.items c.in_ok-declared_of-2.ensures;
      timers = told_as rs n.located c.args.nest.now.instances.items n.instances timers_of (λ x. x.name) (own_names kinds.Timer) own_timers (reactor_trees c.args.reactors.now) same c.as_slice-instances.result.now made c.deref-4.result.now c.in_ok-timers.timers.items c.deref-4.ensures.value (c.in_ok-timers.ensures tree tables n) c.in_ok-declared_of-3.field-0.items c.in_ok-declared_of-3.ensures;
      reactions = placed_told rs n.located c.args.nest.now.instances.items n.instances reactions_of c.in_ok-reactions.reactions.items (c.in_ok-reactions.ensures tree tables n) c.in_ok-placed.field-0.items (c.in_ok-placed.ensures ∙ ap (map placed_at) c.deref-5.ensures.value);
    }
