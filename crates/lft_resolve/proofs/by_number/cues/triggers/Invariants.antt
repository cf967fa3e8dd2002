use Rattle.std.proofs.Common.{List, map, take}
use Rattle.std.specs.List.{AllZip}
use Rattle.lft_tree.specs.{Tree.ReactorTree, View.trigger_view}
use Rattle.lft_resolve.specs.inner.{Sheets.IsCue, Tables.{IsFile, IsOwn}}
use Rattle.lft_resolve.proofs.by_number.cues.triggers.Given as goal

abbrev pub invariant-loop-trigger : goal.invariant-loop-trigger
invariant-loop-trigger l = (rs : List ReactorTree) (r : ReactorTree) → IsFile rs l.file → IsOwn r l.own → AllZip (IsCue rs r) (map trigger_view (take l.trigger-index l.triggers)) l.cues.items
