use Rattle.std.proofs.Common.{List, take}
use Rattle.std.specs.List.{AllZip}
use Rattle.lft_tree.specs.Tree.{ReactorTree}
use Rattle.lft_resolve.specs.inner.{References.reaction_trees, Sheets.AreCues, Tables.{IsFile, IsOwn}}
use Rattle.lft_resolve.proofs.by_number.cues.reactions_in.Given as goal

abbrev pub invariant-loop-reaction : goal.invariant-loop-reaction
invariant-loop-reaction l = (rs : List ReactorTree) (r : ReactorTree) → IsFile rs l.file → IsOwn r l.own → AllZip (AreCues rs r) (reaction_trees (take l.reaction-index l.reaction-items)) l.reactions.items
