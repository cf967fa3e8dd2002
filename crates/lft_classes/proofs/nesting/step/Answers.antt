use Rattle.std.proofs.Common.{◌≡◌, ◌≤◌, ◌+◌, ℕ, None, arith, sym, ◌∙◌}
use Rattle.lft_lists.proofs.Options.{lacking}
use Rattle.lft_classes.{specs.inner.{Shapes.{inside, tables}, Walks.is_done}, proofs.Walking.gap_passed}
use Rattle.lft_classes.proofs.nesting.step.Goals as goal

pub returns-in_default-next_child-clause-walk : goal.returns-in_default-next_child-clause-walk
returns-in_default-next_child-clause-walk c first s =
    let next = inside (tables c.args.shapes.now) in
    let visit = c.in-Some.visit in
    let none = lacking ((k : ℕ) → visit.next ≤ k → next visit.node k ≡ None) c.next_child.result c.next_child.ensures.none c.in_default-next_child.is in
    c.in_ok-end.ensures.walk next first (visit, c.in-Some.ensures.some, none) s

pub returns-then-is_done-clause-walk : goal.returns-then-is_done-clause-walk
returns-then-is_done-clause-walk c first s =
    let next = inside (tables c.args.shapes.now) in
    let visit = c.in-Some.visit in
    let member = c.in-Some-next_child.member in
    let inner = c.in-Some-next_child.inner in
    let child = c.in-Some-next_child.ensures.some in
    let low : c.saturating_add.result ≤ member + 1 = omega arith in
    c.in_ok-pass.ensures.walk next first (visit, c.in-Some.ensures.some, gap_passed next (is_done c.args.walk.now) visit.node visit.next member c.saturating_add.result inner child.0 child.1 (sym c.is_done.ensures ∙ c.if-is_done.true) low) s

pub returns-then-branch-clause-walk : goal.returns-then-branch-clause-walk
returns-then-branch-clause-walk c first s = c.in_ok-enter.ensures.new c.if-branch.true (inside (tables c.args.shapes.now)) first (c.in-Some.visit, c.in-Some.ensures.some, (c.in-Some-next_child.member, c.in-Some-next_child.ensures.some.0)) s
