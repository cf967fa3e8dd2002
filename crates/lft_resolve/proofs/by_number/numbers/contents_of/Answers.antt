use Rattle.std.proofs.Common.{◌≡◌, Some, None, Any, take, string_bytes, refl, sym, ap, subst, ◌∙◌, arith}
use Rattle.std.{specs.List.AllZip, proofs.lemmas.Grind.common_steps}
use Rattle.lft_tree.specs.{View.instance_view, Tree.instances_of}
use Rattle.lft_resolve.specs.{Instances.reactor_named, inner.{Numbers.IsReactorNumberOf, References.instance_trees}}
use Rattle.lft_resolve.proofs.{Files.AllZip-last, Somes.some_here, Twice.map_last}
use Rattle.lft_resolve.proofs.by_number.numbers.contents_of.Goals as goal

pub loop-instance-preserved : goal.loop-instance-preserved
loop-instance-preserved c rs is =
    let there = c.in-Some.ensures rs is in
    let named : reactor_named rs (string_bytes c.instance-item.result.now.reactor) ≡ Some there.0 = ap (reactor_named rs) (sym c.as_str.ensures.value) ∙ there.1 in
    rw (c.in_ok-push-in-Some.ensures.items, map_last (λ x. instance_view x.now) c.deref-instance-items.result.now c.loop-instance.instance-index c.instance-item.result c.loop-instance-test.true (sym c.instance-item.is))
    (AllZip-last (IsReactorNumberOf rs) (instance_trees (take c.loop-instance.instance-index c.deref-instance-items.result.now)) c.loop-instance.instances.items (instance_view c.instance-item.result.now) c.in-Some.number (c.loop-instance.invariant rs is) (there.0, named, there.2))

pub returns-clause-ok : goal.returns-clause-ok
returns-clause-ok c rs r file own =
    let whole : instance_trees (take c.loop-instance.instance-index c.deref-instance-items.result.now) ≡ instances_of r = (let e : take c.loop-instance.instance-index c.deref-instance-items.result.now ≡ c.deref-instance-items.result.now = grind (arith, common_steps) in ap instance_trees (e ∙ c.deref-instance-items.ensures.value) ∙ own.contained) in
    subst (λ l. AllZip (IsReactorNumberOf rs) l c.loop-instance.instances.items) whole (c.loop-instance.invariant rs file)

pub returns-in-None-clause-unknown : goal.returns-in-None-clause-unknown
returns-in-None-clause-unknown c other = (
  refl,
  λ rs r file own. (
      let none : reactor_named rs (string_bytes c.instance-item.result.now.reactor) ≡ None = ap (reactor_named rs) (sym c.as_str.ensures.value) ∙ c.in-None.ensures rs file in
      let all : instance_trees c.deref-instance-items.result.now ≡ instances_of r = ap instance_trees c.deref-instance-items.ensures.value ∙ own.contained in
      subst (Any (λ i. reactor_named rs i.reactor ≡ None)) all (some_here (λ x. instance_view x.now) (λ i. reactor_named rs i.reactor ≡ None) c.deref-instance-items.result.now c.loop-instance.instance-index c.instance-item.result c.loop-instance-test.true (sym c.instance-item.is) none)),
)
