use Rattle.std.proofs.Common.{List, take}
use Rattle.std.specs.List.{AllZip}
use Rattle.lft_tree.specs.{Tree.ReactorTree, View.ref_views}
use Rattle.lft_resolve.specs.{inner.{Sheets.IsSpot, Tables.{IsFile, IsOwn}}, Sheets.without_timers}
use Rattle.lft_resolve.proofs.by_number.cues.uses.Given as goal

abbrev pub invariant-loop-reference : goal.invariant-loop-reference
invariant-loop-reference l = (rs : List ReactorTree) (r : ReactorTree) → IsFile rs l.file → IsOwn r l.own → AllZip (IsSpot rs r) (without_timers r (ref_views (take l.reference-index l.references))) l.spots.items
