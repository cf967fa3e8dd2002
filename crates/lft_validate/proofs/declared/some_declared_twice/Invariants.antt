use Rattle.std.proofs.Common.{Any, take}
use Rattle.lft_tree.specs.View.{reactor_view}
use Rattle.lft_resolve.specs.{Causes.IsTwice, Kinds.names_in}
use Rattle.lft_validate.specs.inner.Members.{behind}
use Rattle.lft_validate.proofs.declared.some_declared_twice.Given as goal

abbrev pub invariant-loop-reactor : goal.invariant-loop-reactor
invariant-loop-reactor l = Any (λ r. IsTwice (names_in (reactor_view r))) (behind (take l.reactor-index l.reactors)) → ⊥
