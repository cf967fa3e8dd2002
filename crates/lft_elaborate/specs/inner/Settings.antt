-- Inside: what stands in a setting.
use Rattle.std.specs.Prelude.{ℕ, List, Option, Some, map, slice_get}
use Rattle.std.specs.Option.{option_and_then}
use Rattle.lft_classes.specs.declared.shapes.Shape.{Shape}
use Rattle.lft_elaborate.specs.{declared.settings.{Setting.Setting, Settings.Settings}, inner.Values.Valued}

-- the shape of the setting of this number
abbrev pub shape_at : Settings → ℕ → Option Shape
shape_at s setting = option_and_then (λ t. slice_get s.shapes.items t.shape) (slice_get s.settings.items setting)

-- a setting that was made
abbrev pub valued : Setting → Valued
valued t = record { shape = t.shape; values = map (λ v. Some v) t.values.items }

-- the one of this number among those that were made
abbrev pub setting_in : List Setting → ℕ → Option Valued
setting_in settings k = slice_get (map valued settings) k

-- the setting of this number
abbrev pub setting_at : Settings → ℕ → Option Valued
setting_at s k = setting_in s.settings.items k
