use Rattle.std.proofs.Common.{List, Bool, ◌+◌, sym, ◌∙◌, subst}
use Rattle.lft_check.specs.inner.ByTag.Indexes.{AreTriggeredRows, AreMarkedTo}
use Rattle.lft_check.proofs.{ByTagLemmas.Begun.{due_more, marked_more, marked_stay}, by_tag.missing.keep_due.Goals.{in-Some, in_default}}
use Rattle.lft_check.proofs.by_tag.missing.keep_due.Goals as goal

pub loop-number-preserved : goal.loop-number-preserved
loop-number-preserved c =
    let cut = c.args.presence.now in
    let places = c.args.places.now in
    let known = c.args.known.now in
    let number = c.loop-number.number in
    elim c.match-marked_start.branch [
      | in-Some w ↦ record {
        due = due_more cut c.args.reaction c.args.tags.now places known c.requires.starts c.requires.known number w.in-Some.place w.in-Some.ensures.0 w.in-Some.ensures.1 c.loop-number.due c.match-marked_start.due (w.due-is ∙ w.mark.ensures) c.loop-number.invariant.due;
        marked = marked_more places known number c.args.due.now c.loop-number.due c.match-marked_start.due w.in-Some.place w.in-Some.ensures.1 (w.due-is ∙ w.mark.ensures) c.loop-number.invariant.marked;
      }
      | in_default w ↦ record {
        due = subst (λ (bs : List Bool). AreTriggeredRows cut bs) (sym w.due-is) c.loop-number.invariant.due;
        marked = subst (λ (bs : List Bool). AreMarkedTo places known (number + 1) c.args.due.now bs) (sym w.due-is) (marked_stay places known number c.args.due.now c.loop-number.due w.in_default.ensures c.loop-number.invariant.marked);
      }
    ]
