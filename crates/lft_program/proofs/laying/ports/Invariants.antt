use Rattle.std.proofs.Common.{◌≡◌, length}
use Rattle.lft_program.proofs.{Making.Made, PortsLaid.IsLinkedPort}
use Rattle.lft_program.proofs.laying.ports.Given as goal

abbrev pub invariant-loop-number : goal.invariant-loop-number
invariant-loop-number l = (length l.ports.items ≡ l.number) × Made (IsLinkedPort l.tables l.nest l.links) l.things.items l.ports.items
