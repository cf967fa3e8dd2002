use Rattle.std.proofs.Common.{◌≡◌, ℕ, List, Some, None, [], ◌∷◌, Any, map, take, string_bytes, sym, ap, subst, ◌∙◌}
use Rattle.std.{proofs.lemmas.List.map-append, specs.List.AllZip}
use Rattle.lft_tree.specs.{Tree.ReactorTree, View.{assignment_view, instance_view}}
use Rattle.lft_resolve.specs.{Causes.{GivesUnknown, LacksParameter}, Instances.reactor_named}
use Rattle.lft_resolve.specs.inner.{Lacking.{LacksName, LacksPlace}, Places.{IsIndexOf, place_in}, References.instance_trees, Sheets.{AreValuesGiven, IsGiven}}
use Rattle.lft_resolve.specs.inner.Tables.{IsOwn}
use Rattle.lft_resolve.specs.declared.own.Own.{Own}
use Rattle.lft_resolve.proofs.{Files.AllZip-last, Lacking.{lacks_parameter, none_at}, Somes.{Any-weaker, some_here}, Twice.map_last}
use Rattle.lft_resolve.proofs.by_number.settings.given_to_each.Goals as goal

pub unreachable-requires : goal.unreachable-requires
unreachable-requires c =
    let rs = c.requires.instances.reactors in
    let none : reactor_named rs (string_bytes c.instance-item.result.now.reactor) ≡ None = ap (reactor_named rs) (sym c.as_str.ensures.value) ∙ c.in-None.ensures rs c.requires.instances.is_file in
    c.requires.instances.known (some_here (λ i. instance_view i.now) (λ i. reactor_named rs i.reactor ≡ None) c.args.instances.now c.loop-instance.instance-index c.instance-item.result c.loop-instance-test.true (sym c.instance-item.is) none)

-- the index is that of the parameters of the new reactor
named : (rs : List ReactorTree) (text name : List ℕ) (own : Own) → text ≡ name → (r : ReactorTree) × (reactor_named rs text ≡ Some r) × IsOwn r own → (r : ReactorTree) × (reactor_named rs name ≡ Some r) × IsIndexOf own.parameters (map (λ p. p.name) r.parameters)
named rs text name own same (r, is, own_is) = (r, ap (reactor_named rs) (sym same) ∙ is, own_is.parameters)

pub given_all-requires-clause-names : goal.given_all-requires-clause-names
given_all-requires-clause-names c lacks =
    let rs = c.requires.instances.reactors in
    let there = named rs _ (string_bytes c.instance-item.result.now.reactor) c.in-Some.inner.now c.as_str.ensures.value (c.in-Some.ensures rs c.requires.instances.is_file) in
    let given = subst (λ l. Any (LacksName c.in-Some.inner.now.parameters) (map assignment_view l)) c.deref.ensures.value lacks in
    let gives : GivesUnknown rs (instance_view c.instance-item.result.now) = (there.0, there.1, Any-weaker (LacksName c.in-Some.inner.now.parameters) (LacksParameter there.0) (lacks_parameter c.in-Some.inner.now.parameters there.0 there.2) _ given) in
    c.requires.instances.named (some_here (λ i. instance_view i.now) (GivesUnknown rs) c.args.instances.now c.loop-instance.instance-index c.instance-item.result c.loop-instance-test.true (sym c.instance-item.is) gives)

pub given_all-requires-clause-times : goal.given_all-requires-clause-times
given_all-requires-clause-times c lacks =
    let P = LacksPlace (place_in c.args.parameters.now) in
    none_at (λ i. instance_view i.now) (λ i. map (λ a. a.value) i.given) P c.args.instances.now c.loop-instance.instance-index c.instance-item.result c.loop-instance-test.true (sym c.instance-item.is) c.requires.times (subst (λ l. Any P (map (λ a. a.value) (map assignment_view l))) c.deref.ensures.value lacks)

pub loop-instance-preserved : goal.loop-instance-preserved
loop-instance-preserved c rs r file outer =
    let there = named rs _ (string_bytes c.instance-item.result.now.reactor) c.in-Some.inner.now c.as_str.ensures.value (c.in-Some.ensures rs file) in
    let one = subst (λ l. AllZip (IsGiven r there.0) (map assignment_view l) c.in_ok-one.one.items) c.deref.ensures.value (c.in_ok-one.ensures r there.0 outer there.2) in
    rw (c.in_ok-push.ensures.items, map_last (λ i. instance_view i.now) c.args.instances.now c.loop-instance.instance-index c.instance-item.result c.loop-instance-test.true (sym c.instance-item.is), map-append (λ g. g.items) c.loop-instance.given.items (c.in_ok-one.one ∷ []))
    (AllZip-last (AreValuesGiven rs r) (instance_trees (take c.loop-instance.instance-index c.args.instances.now)) (map (λ g. g.items) c.loop-instance.given.items) (instance_view c.instance-item.result.now) c.in_ok-one.one.items (c.loop-instance.invariant rs r file outer) (there.0, there.1, one))
