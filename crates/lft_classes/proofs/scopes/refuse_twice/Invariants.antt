use Rattle.std.proofs.Common.{◌≡◌, ◌<◌, ℕ, Some, slice_get}
use Rattle.lft_classes.specs.{declared.scopes.{Class.Class, NamedReactor.NamedReactor}, inner.Scopes.in_scope}
use Rattle.lft_classes.proofs.scopes.refuse_twice.Given as goal

abbrev pub invariant-loop-place : goal.invariant-loop-place
invariant-loop-place l = (k : ℕ) (m : NamedReactor) → k < l.place → slice_get l.scope.meanings.items k ≡ Some m → (c : Class) → in_scope l.scope m.name.now ≡ Some c → c.number ≡ m.class.number
