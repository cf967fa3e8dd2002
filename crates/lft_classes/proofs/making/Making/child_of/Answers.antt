use Rattle.std.proofs.Common.{◌≡◌, ℕ, Some, option_map, slice_get, sym, ap, ◌∙◌}
use Rattle.lft_lists.proofs.Mapped.{mapped_from}
use Rattle.lft_classes.specs.{declared.scopes.Class.Class, inner.{Below.IsBelow, Makings.IsNeeded, Built.core, Chains.extended_reactor, Scopes.meaning_in}}
use Rattle.lft_classes.proofs.Goings.{goes_weaker}
use Rattle.lft_classes.proofs.making.Making.child_of.Goals as goal

pub returns-clause-goes : goal.returns-clause-goes
returns-clause-goes c =
    let scopes = c.args.self.now.scopes in
    let number : Class → ℕ = λ b. b.number in
    let means : extended_reactor scopes c.args.file c.args.instance.now.reactor ≡ Some c.in-Some.class.number = ap (option_map number) (ap (meaning_in scopes c.args.file) (sym c.as_str.ensures.value) ∙ sym c.get.ensures ∙ c.in-Some.is) in
    goes_weaker (λ first. IsBelow scopes first c.in-Some.class.number) (IsNeeded scopes c.args.file c.args.instance.now) _ _ (λ first needed all. needed c.in-Some.class.number means) c.in_ok-shape.ensures.goes

pub returns-clause-child : goal.returns-clause-child
returns-clause-child c first needed all =
    let scopes = c.args.self.now.scopes in
    let number : Class → ℕ = λ b. b.number in
    let means : extended_reactor scopes c.args.file c.args.instance.now.reactor ≡ Some c.in-Some.class.number = ap (option_map number) (ap (meaning_in scopes c.args.file) (sym c.as_str.ensures.value) ∙ sym c.get.ensures ∙ c.in-Some.is) in
    (c.in-Some.class.number, means, c.in_ok-shape.ensures.shape first (needed c.in-Some.class.number means) all)

pub returns-clause-once : goal.returns-clause-once
returns-clause-once c first needed all =
    let scopes = c.args.self.now.scopes in
    let number : Class → ℕ = λ b. b.number in
    let means : extended_reactor scopes c.args.file c.args.instance.now.reactor ≡ Some c.in-Some.class.number = ap (option_map number) (ap (meaning_in scopes c.args.file) (sym c.as_str.ensures.value) ∙ sym c.get.ensures ∙ c.in-Some.is) in
    let of = c.in_ok-shape.ensures.shape first (needed c.in-Some.class.number means) all in
    let from = mapped_from core c.shape_of.new.self.shapes.items c.in_ok-shape.shape of.core of.is_core in
    c.in_ok-given.ensures.once from.0 (ap (λ l. slice_get l c.in_ok-shape.shape) c.deref.ensures.value ∙ from.1)

pub returns-clause-given : goal.returns-clause-given
returns-clause-given c found at = c.in_ok-given.ensures.given found (ap (λ l. slice_get l c.in_ok-shape.shape) c.deref.ensures.value ∙ at)
