use Rattle.std.proofs.Common.{◌≡◌, Some, subst, slice_get, rules}
use Rattle.std.specs.{Map.keys_of, List.Sorted.IsStrictlySortedBy}
use Rattle.lft_tag.specs.{declared.Tag.Tag, Tags.Before}
use Rattle.lft_queue.{specs.inner.Keys.key_cmp, proofs.Dropping.all_kept}
use Rattle.lft_queue.proofs.queue.begins_by.Goals as goal

pub returns-in-Some-clause-begins : goal.returns-in-Some-clause-begins
returns-in-Some-clause-begins c test =
    let k = c.in-Some.key.now in
    let v = c.in-Some.field-0-1.now in
    let f : slice_get c.args.values.now.entries 0 ≡ Some (k, v) = search rules in
    let n : ¬ Before c.args.tag c.tag_of_key.result = search rules in
    (k, v, f, subst (λ (g : Tag). ¬ Before c.args.tag g) c.tag_of_key.ensures n)

pub returns-in-Some-clause-over : goal.returns-in-Some-clause-over
returns-in-Some-clause-over c test =
    let es = c.args.values.now.entries in
    let k = c.in-Some.key.now in
    let v = c.in-Some.field-0-1.now in
    let f : slice_get es 0 ≡ Some (k, v) = search rules in
    let s : IsStrictlySortedBy key_cmp (keys_of es) = search rules in
    let b : Before c.args.tag c.tag_of_key.result = search rules in
    all_kept c.args.tag es k v f s (subst (λ (g : Tag). Before c.args.tag g) c.tag_of_key.ensures b)
