use Rattle.std.proofs.Common.{◌≡◌, ◌-◌, length, Some, None, slice_get, sym, subst, ◌∙◌}
use Rattle.lft_classes.{specs.inner.Walks.{IsTop, IsWalkOver}, proofs.Walking.{some_of, none_of, last_some, last_none}}
use Rattle.lft_classes.proofs.walk.Traversal.top.Goals as goal

pub returns-clause-some : goal.returns-clause-some
returns-clause-some c = some_of (IsTop c.args.self.now) c.copied.result (λ v is. last_some c.args.self.now.path.items v (subst (λ l. slice_get l (length l - 1) ≡ Some v) c.deref.ensures.value (sym c.last.ensures.value ∙ sym c.copied.ensures ∙ is)))

pub returns-clause-none : goal.returns-clause-none
returns-clause-none c = none_of (IsWalkOver c.args.self.now) c.copied.result (λ is. last_none c.args.self.now.path.items (subst (λ l. slice_get l (length l - 1) ≡ None) c.deref.ensures.value (sym c.last.ensures.value ∙ sym c.copied.ensures ∙ is)))
