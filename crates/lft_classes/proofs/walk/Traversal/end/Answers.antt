use Rattle.std.proofs.Common.{length, ap, arith}
use Rattle.std.proofs.lemmas.{List.length_push, Option.MatchOption-at_none}
use Rattle.lft_classes.proofs.{Listing.ended_as_ordered, Sets.{kept, only}, Walking.ended_as}
use Rattle.lft_classes.proofs.walk.Traversal.end.Goals as goal

pub returns-clause-walk : goal.returns-clause-walk
returns-clause-walk c next first ends s = ended_as next first _ _ _ _ _ _ c.in-Some.top _ ends s c.in-Some.ensures.items c.in_ok-push.ensures.items (only c.args.self.now.done c.insert.new.self c.in-Some.top.node c.in_ok-insert.ensures.updates) (kept c.args.self.now.done c.insert.new.self c.in-Some.top.node c.in_ok-insert.ensures.updates) c.in_ok-insert.ensures.updates.1

pub returns-in_default-clause-walk : goal.returns-in_default-clause-walk
returns-in_default-clause-walk c next first ends s =
    let long = length_push ends.1.0 ends.0 in
    let same = ap length ends.1.1 in
    let none = MatchOption-at_none _ _ c.in_default.is c.pop.ensures.cases in
    absurd (omega (arith, long, same, none.0))

pub returns-clause-order : goal.returns-clause-order
returns-clause-order c from first ends is list now = is list (ended_as_ordered from _ _ c.in-Some.top _ _ list c.in-Some.ensures.items c.in_ok-push.ensures.items ends now)

pub returns-in_default-clause-order : goal.returns-in_default-clause-order
returns-in_default-clause-order c from first ends is =
    let long = length_push ends.1.0 ends.0 in
    let same = ap length ends.1.1 in
    let none = MatchOption-at_none _ _ c.in_default.is c.pop.ensures.cases in
    absurd (omega (arith, long, same, none.0))
