use Rattle.std.proofs.Common.{◌≡◌, ◌++◌, Some, take, filter_map, slice_get}
use Rattle.std.specs.List.{AllZip}
use Rattle.lft_ir.specs.{Naming.named, declared.parts.Reaction.Reaction}
use Rattle.lft_model.specs.Presence.{Shows}
use Rattle.lft_model.proofs.slow.inputs_slow.Given as goal

abbrev pub invariant-loop-place : goal.invariant-loop-place
invariant-loop-place l = AllZip (Shows l.plan l.rows l.tag) (filter_map named (take l.place l.triggers)) l.reads.items

abbrev pub invariant-loop-place-2 : goal.invariant-loop-place-2
invariant-loop-place-2 l = (x : Reaction) → slice_get l.plan.program.reactions l.reaction ≡ Some x → AllZip (Shows l.plan l.rows l.tag) (filter_map named x.triggers ++ take l.place l.uses) l.reads.items
