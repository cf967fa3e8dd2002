use Rattle.std.proofs.Common.{◌≡◌, Any, map, flat_map, sym, ap, subst, ◌∙◌}
use Rattle.std.specs.List.{AllZip}
use Rattle.lft_tree.specs.{Tree.{instances_of, nanoseconds}, View.parameter_view}
use Rattle.lft_resolve.specs.inner.{Lacking.{AreInstancesOf, LacksPlace}, References.instance_trees, Places.place_in, Sheets.{AreValuesGiven, kept}}
use Rattle.lft_resolve.proofs.Lacking.{value_lacks}
use Rattle.lft_resolve.proofs.by_number.settings.parameters_of.Goals as goal

pub given_to_each-requires-clause-instances : goal.given_to_each-requires-clause-instances
given_to_each-requires-clause-instances c = subst (λ l. AreInstancesOf c.args.file.now (instance_trees l)) (sym c.deref-2.ensures.value) c.requires.instances

pub given_to_each-requires-clause-times : goal.given_to_each-requires-clause-times
given_to_each-requires-clause-times c a =
    let (r, own, none) = c.requires.times in
    let instances : instance_trees c.deref-2.result.now ≡ instances_of r = ap instance_trees c.deref-2.ensures.value ∙ own.contained in
    none (value_lacks c.args.own.now.parameters r own.parameters (subst (λ l. Any (LacksPlace (place_in c.args.own.now.parameters)) (flat_map (λ i. map (λ a. a.value) i.given) l)) instances a))

pub returns : goal.returns
returns c rs r file own =
    let instances : instance_trees c.deref-2.result.now ≡ instances_of r = ap instance_trees c.deref-2.ensures.value ∙ own.contained in
    record {
      defaults = c.in_ok-default_times.ensures ∙ ap (λ l. map (λ x. kept (nanoseconds x.default)) (map parameter_view l)) c.deref.ensures.value ∙ ap (λ x. map (λ x. kept (nanoseconds x.default)) x.parameters) own.reactor;
      given = subst (λ l. AllZip (AreValuesGiven rs r) l (map (λ g. g.items) c.in_ok-given_to_each.field-0.items)) instances (c.in_ok-given_to_each.ensures rs r file own.parameters);
    }
