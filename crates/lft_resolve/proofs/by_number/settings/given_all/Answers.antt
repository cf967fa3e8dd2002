use Rattle.std.proofs.Common.{map, take, sym}
use Rattle.lft_tree.specs.View.{assignment_view}
use Rattle.lft_resolve.specs.inner.{Lacking.{LacksName, LacksPlace}, Sheets.IsGiven, Places.place_in}
use Rattle.lft_resolve.proofs.{Files.AllZip-last, Lacking.Any-map, Somes.some_here, Twice.map_last}
use Rattle.lft_resolve.proofs.by_number.settings.given_all.Goals as goal

pub given_one-one-requires-clause-name : goal.given_one-one-requires-clause-name
given_one-one-requires-clause-name c lacks = c.requires.names (some_here assignment_view (LacksName c.args.inner.now) c.args.assignments.now c.loop-assignment.assignment-index c.assignment-item.result c.loop-assignment-test.true (sym c.assignment-item.is) lacks)

pub given_one-one-requires-clause-time : goal.given_one-one-requires-clause-time
given_one-one-requires-clause-time c lacks = c.requires.times (Any-map (LacksPlace (place_in c.args.outer.now)) (λ a. a.value) (map assignment_view c.args.assignments.now) (some_here assignment_view (λ a. LacksPlace (place_in c.args.outer.now) a.value) c.args.assignments.now c.loop-assignment.assignment-index c.assignment-item.result c.loop-assignment-test.true (sym c.assignment-item.is) lacks))

pub loop-assignment-preserved : goal.loop-assignment-preserved
loop-assignment-preserved c r i outer inner =
    rw (c.in_ok-push.ensures.items, map_last assignment_view c.args.assignments.now c.loop-assignment.assignment-index c.assignment-item.result c.loop-assignment-test.true (sym c.assignment-item.is))
    (AllZip-last (IsGiven r i) (map assignment_view (take c.loop-assignment.assignment-index c.args.assignments.now)) c.loop-assignment.given.items (assignment_view c.assignment-item.result) _ (c.loop-assignment.invariant r i outer inner) (c.given_one-one.ensures r i outer inner))
