use Rattle.std.proofs.Common.{◌≡◌, ◌<◌, ℕ, Bool, List, true, false, length, slice_set, Option, Some, refl, sym, ap, subst, ◌∙◌, arith, slice_get}
use Rattle.std.specs.Prelude.{unwrap_or}
use Rattle.std.proofs.lemmas.Option.{slice_get_read}
use Rattle.lft_classes.specs.inner.Walks.{Has}
use Rattle.lft_elaborate.{specs.inner.Used.{AreMarked, Stay}, proofs.Marks.{last_has, marks_put, only_push, stay_push}}
use Rattle.lft_elaborate.proofs.counts.mark.Goals as goal

pub returns-clause-stay : goal.returns-clause-stay
returns-clause-stay c = subst (Stay c.args.used.now.items) (sym c.in_ok-push.ensures.items) (stay_push c.args.used.now.items c.args.number)

pub returns-clause-has : goal.returns-clause-has
returns-clause-has c a low = subst (λ (l : List ℕ). Has l c.args.number) (sym c.in_ok-push.ensures.items) (last_has c.args.used.now.items c.args.number)

pub returns-clause-only : goal.returns-clause-only
returns-clause-only c k h = only_push c.args.used.now.items c.args.number k (subst (λ (l : List ℕ). Has l k) c.in_ok-push.ensures.items h)

pub returns-then-index-clause-has : goal.returns-then-index-clause-has
returns-then-index-clause-has c a low =
    let marks = c.args.is_used.now.items in
    let read : slice_get marks c.args.number ≡ Some true = slice_get_read marks (length marks) c.args.number c.index.result.now refl (omega arith) c.index.ensures ∙ ap Some c.if-index.true in
    a.listed c.args.number (ap (λ (o : Option Bool). unwrap_or o false) read)

pub returns-clause-marked : goal.returns-clause-marked
returns-clause-marked c a =
    let marks = c.args.is_used.now.items in
    let within : c.args.number < length marks = omega arith in
    let read : slice_get marks c.args.number ≡ Some false = slice_get_read marks (length marks) c.args.number c.index.result.now refl within c.index.ensures ∙ ap Some c.if-index.false in
    subst (λ (l : List ℕ). AreMarked l (slice_set marks c.args.number true)) (sym c.in_ok-push.ensures.items) (marks_put c.args.used.now.items marks c.args.number a within (ap (λ (o : Option Bool). unwrap_or o false) read))
