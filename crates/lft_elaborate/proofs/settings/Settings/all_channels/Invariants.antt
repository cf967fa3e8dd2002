use Rattle.std.proofs.Common.{◌≡◌, take, Some}
use Rattle.lft_elaborate.specs.inner.{Noted.{AreMade, table, GoesOn}, Places.HavePlaces, Settings.setting_at, Values.Valued}
use Rattle.lft_elaborate.proofs.settings.Settings.all_channels.Given as goal

abbrev pub invariant-loop-reference : goal.invariant-loop-reference
invariant-loop-reference l = record {
  goes : GoesOn (table l.fn.self) (table l.self);
  places : (t : Valued) → AreMade (table l.fn.self) → setting_at l.fn.self l.fn.setting ≡ Some t → HavePlaces l.fn.self.shapes.items t (take l.reference-index l.references) l.all;
}
