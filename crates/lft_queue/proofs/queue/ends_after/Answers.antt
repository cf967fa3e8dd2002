use Rattle.std.proofs.Common.{◌≡◌, ◌-◌, length, Some, subst, slice_get, rules}
use Rattle.lft_tag.specs.{declared.Tag.Tag, Tags.Before}
use Rattle.lft_queue.proofs.Dropping.{none_after}
use Rattle.lft_queue.proofs.queue.ends_after.Goals as goal

pub returns-in-Some-clause-ends : goal.returns-in-Some-clause-ends
returns-in-Some-clause-ends c test =
    let k = c.in-Some.key.now in
    let v = c.in-Some.field-0-1.now in
    let f : slice_get c.args.values.now.entries (length c.args.values.now.entries - 1) ≡ Some (k, v) = search rules in
    let b : Before c.args.tag c.tag_of_key.result = search rules in
    (k, v, f, subst (λ (g : Tag). Before c.args.tag g) c.tag_of_key.ensures b)

pub returns-in-Some-clause-over : goal.returns-in-Some-clause-over
returns-in-Some-clause-over c test =
    let k = c.in-Some.key.now in
    let n : ¬ Before c.args.tag c.tag_of_key.result = search rules in
    none_after c.args.tag k c.args.values.now.entries (search rules) (subst (λ (g : Tag). ¬ Before c.args.tag g) c.tag_of_key.ensures n)
