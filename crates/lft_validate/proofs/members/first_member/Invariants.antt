use Rattle.std.proofs.Common.{◌≡◌, Any, length, map, take}
use Rattle.lft_tree.specs.View.{reactor_view}
use Rattle.lft_validate.specs.inner.{Members.behind, Shown.ShowsCause}
use Rattle.lft_validate.proofs.members.first_member.Given as goal

abbrev pub invariant-loop-place : goal.invariant-loop-place
invariant-loop-place l = record {
  as_long : length l.file.owns.items ≡ length l.reactors;
  none : Any (λ r. Any (λ m. ShowsCause (map reactor_view (behind l.reactors)) (reactor_view r) m l.cause) r.members.items) (behind (take l.place l.reactors)) → ⊥;
}
