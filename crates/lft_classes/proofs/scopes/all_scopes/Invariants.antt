use Rattle.std.proofs.Common.{◌≡◌, ℕ, length, Some, slice_get}
use Rattle.lft_classes.specs.{declared.scopes.Scope.Scope, inner.Scopes.{AreOwnScopes, IsMeantScope}}
use Rattle.lft_classes.proofs.scopes.all_scopes.Given as goal

abbrev pub invariant-loop-number : goal.invariant-loop-number
invariant-loop-number l = record {
  count : length l.scopes.items ≡ l.number;
  each : AreOwnScopes l.files l.own → (t : ℕ) (s : Scope) → slice_get l.scopes.items t ≡ Some s → IsMeantScope l.files t s;
}
