-- What contracts see of external inputs.
use Rattle.std.specs.Prelude.{◌≡◌, ℕ, ◌<◌, ◌⊎◌, List, AllPairs, Some, slice_get}
use Rattle.lft_tag.specs.{declared.Tag.Tag, Tags.Before}
use Rattle.lft_ir.specs.declared.steps.externals.Event.{Event}

-- the stop tag and the events of physical actions, which the world gives and the trace doesn't
pub record ExternalInputs : Type 0 where
  pub stop : Tag
  pub events : List Event

-- the tag is earlier, or it is the same and the action is of a lower number
abbrev pub ComesBefore : Event → Event → Type 0
ComesBefore x y = Before x.tag y.tag ⊎ ((x.tag ≡ y.tag) × (x.action < y.action))

-- ascending by tag, then by action, so no pair of them stands twice
abbrev pub InOrder : List Event → Type 0
InOrder events = AllPairs ComesBefore events

-- an event of the same action at the same tag is among them
pub record IsTold (events : List Event) (event : Event) : Type 0 where
  pub place : ℕ
  pub other : Event
  pub stands : slice_get events place ≡ Some other
  pub same_tag : other.tag ≡ event.tag
  pub same_action : other.action ≡ event.action
