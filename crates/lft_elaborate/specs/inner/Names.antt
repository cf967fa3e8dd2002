-- Inside: how the things that a name stands for are written.
use Rattle.std.specs.Prelude.{[], ℕ, List, string_bytes, ◌++◌}
use Rattle.lft_whole.specs.declared.tree.Member.{Member}
use Rattle.lft_elaborate.specs.{declared.names.Numbered.Numbered, Names.tail}
use Rattle.lft_whole.specs.declared.tree.Member.TheVariants as member

-- the name of a port, timer, action or instance; else nothing
abbrev pub name_in : Member → List ℕ
name_in (member.Port port) = string_bytes port.name.text
name_in (member.Timer timer) = string_bytes timer.name.text
name_in (member.Action action) = string_bytes action.name.text
name_in (member.Instance instance) = string_bytes instance.name.text
name_in _ = []

-- the name with its number, if it has one (ours: `b`, `b[2]`)
abbrev pub spelled : Numbered → List ℕ
spelled n = n.name.now ++ tail n.number
