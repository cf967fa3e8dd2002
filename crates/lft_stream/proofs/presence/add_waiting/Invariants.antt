use Rattle.std.proofs.Common.{◌⊎◌, Contains}
use Rattle.lft_lists.proofs.Members.{Mem}
use Rattle.lft_ir.specs.declared.parts.Name.{Name}
use Rattle.lft_stream.proofs.presence.add_waiting.Given as goal

-- each name is listed, or it is still to come
abbrev pub invariant-loop-name : goal.invariant-loop-name
invariant-loop-name l = record { kept : (n : Name) → Contains l.fn.names.items n → Contains l.names.items n; added : (n : Name) → Mem n l.initial.name-iterator → Contains l.names.items n ⊎ Mem n l.name-iterator }
