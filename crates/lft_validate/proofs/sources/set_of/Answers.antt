use Rattle.std.proofs.Common.{take, sym, subst}
use Rattle.lft_tree.specs.View.{ref_view}
use Rattle.lft_validate.{specs.inner.Seen.{has_seen, same_ref}, proofs.SameRefs.ref_decides}
use Rattle.lft_resolve.{specs.inner.{References.ref_trees, Tests.IsTestOf}, proofs.{Tested.test_more, Twice.map_last}}
use Rattle.lft_validate.proofs.sources.set_of.Goals as goal

pub loop-name-preserved : goal.loop-name-preserved
loop-name-preserved c = subst (IsTestOf (has_seen c.add.new.self)) (sym (map_last (λ r. ref_view r.now) c.args.names.now c.loop-name.name-index c.name-item.result c.loop-name-test.true (sym c.name-item.is))) (test_more same_ref ref_decides (has_seen c.loop-name.set) (has_seen c.add.new.self) (ref_trees (take c.loop-name.name-index c.args.names.now)) (ref_view c.name-item.result.now) c.loop-name.invariant c.in_ok-add.ensures.added)
