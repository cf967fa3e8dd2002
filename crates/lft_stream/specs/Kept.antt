-- What is kept of rows at finished tags, and what is asked of the next ones.
use Rattle.std.specs.Prelude.{Option, Some, None}
use Rattle.lft_tag.specs.{declared.Tag.Tag, Tags.after}

-- the tag before which all is done with: the one behind the last row
abbrev pub low_of : Option Tag → Tag
low_of None = record { time = 0; micro = 0 }
low_of (Some g) = after g 0
