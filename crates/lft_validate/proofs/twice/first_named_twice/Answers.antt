use Rattle.std.proofs.Common.{take, sym, subst}
use Rattle.lft_tree.specs.View.{ref_view}
use Rattle.lft_validate.{specs.inner.Seen.{has_seen, same_ref}, proofs.SameRefs.ref_decides}
use Rattle.lft_resolve.specs.inner.{References.ref_trees, Tests.IsTestOf}
use Rattle.lft_resolve.proofs.{Tested.{test_none, test_more, was_new, was_met}, Twice.{map_last, once_more, once_done, once_none}}
use Rattle.lft_lists.proofs.{Mapped.mapped_at, Options.none_weaker}
use Rattle.lft_validate.proofs.twice.first_named_twice.Goals as goal

pub loop-place-init : goal.loop-place-init
loop-place-init c = (test_none (has_seen c.new-seen.result) c.new-seen.ensures, once_none)

pub returns-then-not-branch-clause-none : goal.returns-then-not-branch-clause-none
returns-then-not-branch-clause-none c =
    let names = c.args.names.now in
    let place = c.loop-place.place in
    let item = c.index-names-place.result in
    let met = was_met (has_seen c.loop-place.seen) (ref_trees (take place names)) (ref_view item.now) c.in_ok-add.field-0 c.loop-place.invariant.0 c.in_ok-add.ensures.new c.if-not-branch.true in
    none_weaker _ _ c.name_before.result (λ none. absurd (none (ref_view item.now) (mapped_at (λ r. ref_view r.now) names place item c.loop-place-test.true (sym c.index-names-place.is)) met)) c.name_before.ensures.none

pub loop-place-preserved : goal.loop-place-preserved
loop-place-preserved c =
    let names = c.args.names.now in
    let place = c.loop-place.place in
    let item = c.index-names-place.result in
    let before = ref_trees (take place names) in
    let name = ref_view item.now in (
      subst (IsTestOf (has_seen c.add.new.self)) (sym (map_last (λ r. ref_view r.now) names place item c.loop-place-test.true (sym c.index-names-place.is))) (test_more same_ref ref_decides (has_seen c.loop-place.seen) (has_seen c.add.new.self) before name c.loop-place.invariant.0 c.in_ok-add.ensures.added),
      once_more (λ r. ref_view r.now) names place item c.loop-place-test.true (sym c.index-names-place.is) c.loop-place.invariant.1 (was_new (has_seen c.loop-place.seen) before name c.in_ok-add.field-0 c.loop-place.invariant.0 c.in_ok-add.ensures.new c.if-not-branch.false),
    )

pub returns-clause-none : goal.returns-clause-none
returns-clause-none c = once_done (λ r. ref_view r.now) c.args.names.now c.loop-place.place c.loop-place-test.false c.loop-place.invariant.1
