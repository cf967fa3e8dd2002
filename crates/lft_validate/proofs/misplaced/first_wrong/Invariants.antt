use Rattle.std.proofs.Common.{List, Any, take}
use Rattle.lft_tree.specs.{Tree.ReactorTree, View.ref_view}
use Rattle.lft_resolve.specs.{Causes.IsMisplaced, inner.Tables.{IsFile, IsOwn}}
use Rattle.lft_validate.specs.inner.Members.{behind}
use Rattle.lft_validate.proofs.misplaced.first_wrong.Given as goal

abbrev pub invariant-loop-name : goal.invariant-loop-name
invariant-loop-name l = (rs : List ReactorTree) (r : ReactorTree) → IsFile rs l.file → IsOwn r l.own → Any (λ x. IsMisplaced rs r (l.role, ref_view x)) (behind (take l.name-index l.names)) → ⊥
