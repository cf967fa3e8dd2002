use Rattle.std.proofs.Common.{List, Any, take}
use Rattle.lft_tree.specs.Tree.{ReactorTree}
use Rattle.lft_resolve.specs.inner.Tables.{IsFile, IsOwn}
use Rattle.lft_validate.specs.{Findings.IsNothing, inner.Members.behind}
use Rattle.lft_validate.proofs.unknown.first_nothing.Given as goal

abbrev pub invariant-loop-name : goal.invariant-loop-name
invariant-loop-name l = (rs : List ReactorTree) (r : ReactorTree) → IsFile rs l.file → IsOwn r l.own → Any (IsNothing rs r) (behind (take l.name-index l.names)) → ⊥
