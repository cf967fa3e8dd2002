use Rattle.std.proofs.Common.{◌≡◌, ◌≢◌, ◌<◌, ℕ, Some, slice_get}
use Rattle.lft_whole.specs.declared.tree.Foreign.{Foreign}
use Rattle.lft_classes.specs.declared.shapes.Inherited.{Inherited}
use Rattle.lft_whole.specs.declared.tree.Member.TheVariants as member
use Rattle.lft_classes.proofs.shapes.refuse_foreign.Given as goal

abbrev pub invariant-loop-inherited : goal.invariant-loop-inherited
invariant-loop-inherited l = (k : ℕ) (m : Inherited) → k < l.inherited-index → slice_get l.members k ≡ Some m → (what : Foreign) (at : ℕ) → m.member.now ≢ member.Foreign what at
