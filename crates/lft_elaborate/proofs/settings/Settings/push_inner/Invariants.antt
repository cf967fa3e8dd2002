use Rattle.std.proofs.Common.{◌≡◌, ℕ, ◌<◌, ◌⊎◌, Some}
use Rattle.lft_classes.specs.inner.Walks.{Has}
use Rattle.lft_elaborate.specs.inner.{Noted.{AreMade, table, GoesOn}, Settings.setting_at, Used.{AreMarked, HasNumber, IsNumberIn, Stay, IsIn}, Values.Valued}
use Rattle.lft_elaborate.proofs.settings.Settings.push_inner.Given as goal

abbrev pub invariant-loop-member : goal.invariant-loop-member
invariant-loop-member l = record {
  goes : GoesOn (table l.fn.self) (table l.self);
  marked : AreMarked l.fn.used.items l.fn.is_used.items → AreMarked l.used.items l.is_used.items;
  stay : Stay l.fn.used.items l.used.items;
  all : (t : Valued) → AreMade (table l.fn.self) → setting_at l.fn.self l.fn.setting ≡ Some t → AreMarked l.fn.used.items l.fn.is_used.items → (m : ℕ) (u : Valued) → m < l.member → IsIn l.fn.self.shapes.items t m u → HasNumber (table l.self) l.used.items u;
  only : (t : Valued) → AreMade (table l.fn.self) → setting_at l.fn.self l.fn.setting ≡ Some t → (k : ℕ) → Has l.used.items k → Has l.fn.used.items k ⊎ ((m : ℕ) × IsNumberIn l.fn.self.shapes.items l.self.settings.items t m k);
}
