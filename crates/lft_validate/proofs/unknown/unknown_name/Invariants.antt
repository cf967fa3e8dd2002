use Rattle.std.proofs.Common.{◌≡◌, ℕ, ◌<◌, List, Some, Any, slice_get}
use Rattle.lft_tree.specs.Tree.{ReactorTree}
use Rattle.lft_validate.{specs.{Findings.IsNothing, Members.names_of}, proofs.Roles.roles}
use Rattle.lft_resolve.specs.{inner.Tables.{IsFile, IsOwn}, declared.kinds.Role.Role}
use Rattle.lft_validate.proofs.unknown.unknown_name.Given as goal

abbrev pub invariant-loop-role : goal.invariant-loop-role
invariant-loop-role l = (rs : List ReactorTree) (r : ReactorTree) → IsFile rs l.file → IsOwn r l.own → (k : ℕ) (role : Role) → k < l.role-index → slice_get roles k ≡ Some role → Any (IsNothing rs r) (names_of role l.member) → ⊥
