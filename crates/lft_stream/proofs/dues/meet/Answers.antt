use Rattle.std.proofs.Common.{refl, subst, arith}
use Rattle.lft_tag.specs.declared.Tag.{Tag}
use Rattle.lft_lists.proofs.Places.{contains_at, get_there}
use Rattle.lft_model.proofs.Places.{slice_get_within}
use Rattle.lft_stream.{specs.inner.Dues.IsDueAt, proofs.Owing.{due_occurs, due_set}}
use Rattle.lft_stream.proofs.dues.meet.Goals as goal

pub returns-clause-due : goal.returns-clause-due
returns-clause-due c = λ plan t r triggers last ran are.
    let due = c.item_at-due.result in
    let at = subst (λ (k : Tag). IsDueAt k c.args.tag due) last (c.if-not-is_at.ensures.0 refl) in
    let x = get_there triggers c.args.place (let a = slice_get_within c.args.dues.now c.args.place due c.item_at-due.ensures in let b = are.as_long in omega arith) in
    due_set plan t r triggers c.args.dues.now c.args.place x.0 c.in_ok-next.next x.1 (c.in_ok-next.ensures plan t c.args.tag r x.0 (are.each c.args.place x.0 due x.1 c.item_at-due.ensures) at ran) are

pub returns-clause-present : goal.returns-clause-present
returns-clause-present c = λ z plan t r triggers last ran are.
    let due = c.item_at-due.result in
    let at = subst (λ (k : Tag). IsDueAt k c.args.tag due) last (c.if-not-is_at.ensures.0 refl) in
    let x = get_there triggers c.args.place (let a = slice_get_within c.args.dues.now c.args.place due c.item_at-due.ensures in let b = are.as_long in omega arith) in
    (x.0, contains_at triggers c.args.place x.0 x.1, due_occurs plan t c.args.tag r x.0 due (are.each c.args.place x.0 due x.1 c.item_at-due.ensures) at)
