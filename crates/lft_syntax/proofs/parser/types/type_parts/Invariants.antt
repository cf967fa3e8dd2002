use Rattle.std.proofs.Common.{◌-◌, length}
use Rattle.lft_syntax.{specs.inner.{Reading.{is_type_part, type_part_at, type_parts_at, ignoring_at}, Parsing.words}, proofs.Loop.Passing}
use Rattle.lft_syntax.proofs.parser.types.type_parts.Given as goal

abbrev pub invariant-list : goal.invariant-list
invariant-list l = Passing is_type_part type_part_at (words l.input) l.next (ignoring_at type_parts_at (words l.input) l.fn.at)

abbrev pub decreases-list : goal.decreases-list
decreases-list l = length (words l.input) - l.next
