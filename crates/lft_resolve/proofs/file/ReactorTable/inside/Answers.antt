use Rattle.std.proofs.Common.{◌≡◌, slice_get, option_map, option_copied, Some, None, sym, ap, ◌∙◌}
use Rattle.std.{specs.Option.option_and_then, proofs.lemmas.Option.slice_get-map}
use Rattle.lft_tree.specs.{Tree.{ReactorTree, instances_of}, View.instance_view}
use Rattle.lft_resolve.specs.{Instances.reactor_named, inner.{References.instance_trees, Sheets.instance_place, Tables.IsOwn}}
use Rattle.lft_resolve.proofs.{Directed.place_none, Placing.{find-place, lent, place_found}, file.ReactorTable.inside.Goals.After-get-in-Some}
use Rattle.lft_resolve.proofs.file.ReactorTable.inside.Goals as goal

-- the instance that is lent is the one at the place of the name
held_at : (c : After-get-in-Some) (r : ReactorTree) → IsOwn r c.args.own.now → instance_place r c.args.name.now ≡ Some c.in-Some.place
held_at c r own = sym (own.instances c.args.name.now) ∙ sym c.get.ensures ∙ c.in-Some.is

held : (c : After-get-in-Some) (r : ReactorTree) → IsOwn r c.args.own.now → option_map (λ i. instance_view i.now) (option_copied c.get-in-Some.result) ≡ slice_get (instances_of r) c.in-Some.place
held c r own =
    let instances : instance_trees c.deref.result.now ≡ instances_of r = ap instance_trees c.deref.ensures.value ∙ own.contained in
    ap (option_map (λ i. instance_view i.now)) (lent c.deref.result.now c.in-Some.place c.get-in-Some.result c.get-in-Some.ensures.lookup) ∙ sym (slice_get-map (λ i. instance_view i.now) c.deref.result.now c.in-Some.place) ∙ ap (λ l. slice_get l c.in-Some.place) instances

pub returns-in-Some-reactor : goal.returns-in-Some-reactor
returns-in-Some-reactor c rs r file own =
    let before = (goal.at.returns-in-Some-reactor c).After-get-in-Some in
    let there = c.in-Some-reactor.ensures rs file in
    record {
      i = instance_view c.in-Some-get.instance.now.now;
      inner = there.0;
      is_place = held_at before r own;
      is_instance = sym (held before r own) ∙ ap (λ o. option_map (λ i. instance_view i.now) (option_copied o)) c.in-Some-get.is;
      is_inner = ap (reactor_named rs) (sym c.as_str.ensures.value) ∙ there.1;
      is_own = there.2;
    }

pub returns-in-None-reactor : goal.returns-in-None-reactor
returns-in-None-reactor c rs r file own =
    let before = (goal.at.returns-in-None-reactor c).After-get-in-Some in
    let there = sym (held before r own) ∙ ap (λ o. option_map (λ i. instance_view i.now) (option_copied o)) c.in-Some-get.is in
    ap (option_and_then (λ i. reactor_named rs i.reactor)) (place_found (λ i. i.name) c.args.name.now (instances_of r) c.in-Some.place (instance_view c.in-Some-get.instance.now.now) (held_at before r own) there) ∙ ap (reactor_named rs) (sym c.as_str.ensures.value) ∙ c.in-None-reactor.ensures rs file

pub returns-in-None-get : goal.returns-in-None-get
returns-in-None-get c rs r file own =
    let before = (goal.at.returns-in-None-get c).After-get-in-Some in
    let there = sym (held before r own) ∙ ap (λ o. option_map (λ i. instance_view i.now) (option_copied o)) c.in-None-get.is in
    ap (option_and_then (λ i. reactor_named rs i.reactor)) (find-place (λ i. i.name) c.args.name.now (instances_of r) ∙ ap (option_and_then (slice_get (instances_of r))) (held_at before r own) ∙ there)

pub returns-in-None : goal.returns-in-None
returns-in-None c rs r file own =
    let nowhere : instance_place r c.args.name.now ≡ None = sym (own.instances c.args.name.now) ∙ sym c.get.ensures ∙ c.in-None.is in
    ap (option_and_then (λ i. reactor_named rs i.reactor)) (place_none (λ i. i.name) c.args.name.now (instances_of r) nowhere)
