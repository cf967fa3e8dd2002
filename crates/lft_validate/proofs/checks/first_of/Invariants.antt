use Rattle.std.proofs.Common.{Any, map, take}
use Rattle.lft_tree.specs.View.{reactor_view}
use Rattle.lft_validate.specs.inner.{Members.behind, Witnesses.CauseSays}
use Rattle.lft_validate.proofs.checks.first_of.Given as goal

abbrev pub invariant-loop-place : goal.invariant-loop-place
invariant-loop-place l = Any (CauseSays (map reactor_view (behind l.reactors))) (map (λ c. c) (take l.place l.causes)) → ⊥
