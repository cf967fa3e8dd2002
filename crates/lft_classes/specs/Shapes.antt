-- What stands in a reactor with all that it inherits.
use Rattle.std.specs.Prelude.{Option, Some, None}
use Rattle.lft_whole.specs.declared.tree.{Member.Member, Name.Name, Width.Width}
use Rattle.lft_whole.specs.declared.tree.Member.TheVariants as member

-- the width of a port or an instance, if it has one
abbrev pub width_of : Member → Option Width
width_of (member.Port port) = port.width
width_of (member.Instance instance) = instance.width
width_of _ = None

-- the name of a member that has one
abbrev pub name_of : Member → Option Name
name_of (member.Port port) = Some port.name
name_of (member.Timer timer) = Some timer.name
name_of (member.Action action) = Some action.name
name_of (member.Instance instance) = Some instance.name
name_of _ = None
