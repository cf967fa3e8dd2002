use Rattle.std.proofs.Common.{take, sym}
use Rattle.lft_tree.specs.View.{reactor_view}
use Rattle.lft_resolve.{specs.inner.{References.reactor_trees, Tables.IsOwn}, proofs.{Files.AllZip-last, Twice.map_last}}
use Rattle.lft_resolve.proofs.file.owns_of.Goals as goal

pub loop-reactor-preserved : goal.loop-reactor-preserved
loop-reactor-preserved c =
    rw (c.in_ok-push.ensures.items, map_last (λ x. reactor_view x.now) c.args.reactors.now c.loop-reactor.reactor-index c.reactor-item.result c.loop-reactor-test.true (sym c.reactor-item.is))
    (AllZip-last IsOwn (reactor_trees (take c.loop-reactor.reactor-index c.args.reactors.now)) c.loop-reactor.owns.items (reactor_view c.reactor-item.result.now) c.in_ok-of.field-0 c.loop-reactor.invariant c.in_ok-of.ensures)
