use Rattle.std.proofs.Common.{◌<◌, Any, take}
use Rattle.lft_tree.specs.{Tree.nanoseconds, View.reactor_view}
use Rattle.lft_resolve.specs.Causes.{longest}
use Rattle.lft_validate.specs.inner.Members.{behind}
use Rattle.lft_validate.proofs.mains.long_default.Given as goal

abbrev pub invariant-loop-reactor : goal.invariant-loop-reactor
invariant-loop-reactor l = Any (λ r. Any (λ p. longest < nanoseconds p.default) (reactor_view r).parameters) (behind (take l.reactor-index l.reactors)) → ⊥
