use Rattle.std.proofs.Common.{◌≡◌, map, slice_get, option_map, Some, None, sym, ap, ◌∙◌}
use Rattle.std.{specs.Option.option_and_then, proofs.lemmas.Option.slice_get-map}
use Rattle.lft_tree.specs.{Tree.ports_of, View.port_view}
use Rattle.lft_resolve.{specs.inner.{Places.place, References.port_trees}, proofs.Placing.{find-place, lent}}
use Rattle.lft_resolve.proofs.own.Own.port.Goals as goal

pub returns-in-Some : goal.returns-in-Some
returns-in-Some c r is =
    let at : place c.args.name.now (map (λ x. x.name) (ports_of r)) ≡ Some c.in-Some.place = sym (is.ports c.args.name.now) ∙ sym c.get.ensures ∙ c.in-Some.is in
    let ports : port_trees c.deref.result.now ≡ ports_of r = ap port_trees c.deref.ensures.value ∙ is.declared_ports in
    ap (option_map (λ i. port_view i.now)) (c.copied.ensures ∙ lent c.deref.result.now c.in-Some.place c.get-in-Some.result c.get-in-Some.ensures.lookup) ∙ sym (slice_get-map (λ i. port_view i.now) c.deref.result.now c.in-Some.place) ∙ ap (λ l. slice_get l c.in-Some.place) ports ∙ sym (find-place (λ x. x.name) c.args.name.now (ports_of r) ∙ ap (option_and_then (slice_get (ports_of r))) at)

pub returns-in-None : goal.returns-in-None
returns-in-None c r is =
    let at : place c.args.name.now (map (λ x. x.name) (ports_of r)) ≡ None = sym (is.ports c.args.name.now) ∙ sym c.get.ensures ∙ c.in-None.is in
    sym (find-place (λ x. x.name) c.args.name.now (ports_of r) ∙ ap (option_and_then (slice_get (ports_of r))) at)
