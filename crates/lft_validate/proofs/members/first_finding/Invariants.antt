use Rattle.std.proofs.Common.{List, Any, take}
use Rattle.lft_tree.specs.{Tree.ReactorTree, View.reactor_view}
use Rattle.lft_resolve.specs.inner.Tables.{IsFile, IsOwn}
use Rattle.lft_validate.specs.inner.Shown.{ShowsCause}
use Rattle.lft_validate.proofs.members.first_finding.Given as goal

abbrev pub invariant-loop-member : goal.invariant-loop-member
invariant-loop-member l = (rs : List ReactorTree) → IsFile rs l.file → IsOwn (reactor_view l.reactor) l.own → Any (λ m. ShowsCause rs (reactor_view l.reactor) m l.cause) (take l.member-index l.member-items) → ⊥
