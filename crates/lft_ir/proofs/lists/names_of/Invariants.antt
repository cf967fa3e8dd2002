use Rattle.std.proofs.Common.{◌≡◌, take, filter_map}
use Rattle.lft_ir.specs.Naming.{named}
use Rattle.lft_ir.proofs.lists.names_of.Given as goal

abbrev pub invariant-loop-place : goal.invariant-loop-place
invariant-loop-place l = l.names.items ≡ filter_map named (take l.place l.triggers)
