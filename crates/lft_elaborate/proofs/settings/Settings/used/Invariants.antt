use Rattle.std.proofs.Common.{◌≤◌, ◌-◌, vec_len}
use Rattle.lft_elaborate.{specs.inner.Noted.{AreSettings, table, GoesOn}, proofs.Using.Using}
use Rattle.lft_elaborate.proofs.settings.Settings.used.Given as goal

abbrev pub invariant-places : goal.invariant-places
invariant-places l = record {
  few : vec_len l.used ≤ 10000;
  goes : GoesOn (table l.fn.self) (table l.self);
  using : AreSettings (table l.fn.self) → Using (table l.self) l.used.items l.is_used.items l.place;
}

abbrev pub decreases-places : goal.decreases-places
decreases-places l = 10001 - l.place
