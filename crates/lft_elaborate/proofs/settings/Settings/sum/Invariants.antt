use Rattle.std.proofs.Common.{◌≡◌, ◌≤◌, take, Some}
use Rattle.std.specs.Prelude.{IfSome}
use Rattle.lft_elaborate.specs.inner.{Noted.{GoesOn, AreMade, table}, Places.IsSum, Settings.setting_at, Values.Valued}
use Rattle.lft_elaborate.proofs.settings.Settings.sum.Given as goal

abbrev pub invariant-loop-term : goal.invariant-loop-term
invariant-loop-term l = record {
  work : l.self.work.left ≤ l.fn.self.work.left;
  goes : GoesOn (table l.fn.self) (table l.self);
  sum : IfSome l.all (λ n. (t : Valued) → AreMade (table l.fn.self) → setting_at l.fn.self l.fn.setting ≡ Some t → IsSum l.fn.self.shapes.items t (take l.term-index l.terms) n);
}
