use Rattle.std.proofs.Common.{take}
use Rattle.std.specs.List.{AllZip}
use Rattle.lft_tree.specs.Tree.{reactors_of}
use Rattle.lft_resolve.specs.inner.Sheets.{IsParameters}
use Rattle.lft_resolve.proofs.by_number.settings.parameters.Given as goal

abbrev pub invariant-loop-own : goal.invariant-loop-own
invariant-loop-own l = AllZip (IsParameters (reactors_of l.scopes)) (take l.own-index (reactors_of l.scopes)) l.table.items
