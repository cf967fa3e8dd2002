use Rattle.std.proofs.Common.{◌≡◌, ℕ, [], length, Some, slice_get}
use Rattle.lft_classes.specs.{declared.scopes.Scope.Scope, inner.Scopes.{AreNumberedClasses, placed, IsOwnScope, reactors_before}}
use Rattle.lft_classes.proofs.scopes.own_scopes.Given as goal

abbrev pub invariant-loop-number : goal.invariant-loop-number
invariant-loop-number l = record {
  count : length l.own.items ≡ l.number;
  classes : placed l.initial.classes.items ≡ [] → placed l.classes.items ≡ reactors_before l.files l.number;
  numbers : AreNumberedClasses l.initial.classes.items → AreNumberedClasses l.classes.items;
  own : placed l.initial.classes.items ≡ [] → (t : ℕ) (s : Scope) → slice_get l.own.items t ≡ Some s → IsOwnScope l.files t s;
}
