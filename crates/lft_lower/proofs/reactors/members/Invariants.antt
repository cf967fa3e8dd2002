use Rattle.std.proofs.Common.{take, string_bytes}
use Rattle.std.specs.Prelude.{option_map}
use Rattle.lft_tree.specs.View.{member_views}
use Rattle.lft_lower.specs.inner.{Meanings.Names.texts, Lowered.AreLowered, Standing.StandAtTokens}
use Rattle.lft_lower.proofs.reactors.members.Given as goal

abbrev pub invariant-loop-number : goal.invariant-loop-number
invariant-loop-number l = AreLowered (texts l.maker.names.now) (record { settings = l.maker.settings.now; setting = l.setting; shape = l.shape }) (take l.number l.shape.members.items) (member_views l.list.items) (option_map string_bytes l.never) × StandAtTokens l.maker.files.now (record { settings = l.maker.settings.now; setting = l.setting; shape = l.shape }) (take l.number l.shape.members.items) l.list.items
