use Rattle.std.proofs.Common.{length, ap, refl, arith}
use Rattle.std.proofs.lemmas.{List.length_push, Option.MatchOption-at_none}
use Rattle.lft_classes.{specs.inner.Walks.is_done, proofs.{Listing.moved_as_ordered, Walking.moved_as}}
use Rattle.lft_classes.proofs.walk.Traversal.pass.Goals as goal

pub returns-clause-walk : goal.returns-clause-walk
returns-clause-walk c next first passes s = moved_as next first _ _ _ _ _ _ c.in-Some.top _ c.args.number passes s c.in-Some.ensures.items refl c.in_ok-push.ensures.items

pub returns-in_default-clause-walk : goal.returns-in_default-clause-walk
returns-in_default-clause-walk c next first passes s =
    let long = length_push passes.1.0 passes.0 in
    let same = ap length passes.1.1 in
    let none = MatchOption-at_none _ _ c.in_default.is c.pop.ensures.cases in
    absurd (omega (arith, long, same, none.0))

pub returns-clause-order : goal.returns-clause-order
returns-clause-order c next from first passes s is list now = is list (moved_as_ordered from _ _ _ c.in-Some.top _ c.args.number _ list (is_done c.args.self.now) c.in-Some.ensures.items refl c.in_ok-push.ensures.items s.in_list passes now)

pub returns-in_default-clause-order : goal.returns-in_default-clause-order
returns-in_default-clause-order c next from first passes s is =
    let long = length_push passes.1.0 passes.0 in
    let same = ap length passes.1.1 in
    let none = MatchOption-at_none _ _ c.in_default.is c.pop.ensures.cases in
    absurd (omega (arith, long, same, none.0))
