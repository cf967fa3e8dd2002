-- Inside: widths of members in a setting.
use Rattle.std.specs.Prelude.{ℕ, Option, slice_get}
use Rattle.std.specs.Option.{option_and_then}
use Rattle.lft_elaborate.specs.{declared.settings.Settings.Settings, inner.Settings.shape_at}
use Rattle.lft_whole.specs.declared.tree.Width.{Width}
use Rattle.lft_classes.specs.{declared.shapes.Inherited.Inherited, Shapes.width_of}

-- the width that was found of it
abbrev pub found_width : Settings → ℕ → ℕ → Option ℕ
found_width s setting member = option_and_then (λ found. option_and_then (λ width. width) (slice_get found.widths.items member)) (slice_get s.settings.items setting)

-- the member of this number in the setting of that number
abbrev pub member_at : Settings → ℕ → ℕ → Option Inherited
member_at s setting member = option_and_then (λ shape. slice_get shape.members.items member) (shape_at s setting)

-- the width that is written at it, if it has one
abbrev pub width_at : Settings → ℕ → ℕ → Option Width
width_at s setting member = option_and_then (λ found. width_of found.member.now) (member_at s setting member)
