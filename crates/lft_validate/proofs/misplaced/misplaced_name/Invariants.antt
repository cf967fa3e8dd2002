use Rattle.std.proofs.Common.{◌≡◌, ℕ, ◌<◌, List, Some, Any, slice_get}
use Rattle.lft_tree.specs.{Tree.ReactorTree, View.ref_view}
use Rattle.lft_resolve.specs.{Causes.IsMisplaced, inner.Tables.{IsFile, IsOwn}, declared.kinds.Role.Role}
use Rattle.lft_validate.{specs.Members.names_of, proofs.Roles.roles}
use Rattle.lft_validate.proofs.misplaced.misplaced_name.Given as goal

abbrev pub invariant-loop-role : goal.invariant-loop-role
invariant-loop-role l = (rs : List ReactorTree) (r : ReactorTree) → IsFile rs l.file → IsOwn r l.own → (k : ℕ) (role : Role) → k < l.role-index → slice_get roles k ≡ Some role → Any (λ x. IsMisplaced rs r (role, ref_view x)) (names_of role l.member) → ⊥
