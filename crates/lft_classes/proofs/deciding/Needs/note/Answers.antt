use Rattle.std.proofs.Common.{[], ◌∷◌, sym, ap, ◌∙◌}
use Rattle.lft_classes.specs.{inner.Needs.{HasNeed, IsTimeIn, NamesParameter}, Shapes.width_of, Needs.{Times, Widths, times_of_member}}
use Rattle.lft_classes.proofs.{Marking.{marks_as, marks_on}, Passing.{among_two, time_needed, width_needed}}
use Rattle.lft_classes.proofs.deciding.Needs.note.Goals as goal

pub returns-in_ok-note_width-in-Port-clause-sized : goal.returns-in_ok-note_width-in-Port-clause-sized
returns-in_ok-note_width-in-Port-clause-sized c =
    let shapes = c.args.shapes.now in
    let shape = c.args.shape.now in
    let m = c.args.inherited.member.now in
    let width = c.in-Port.port.width in
    marks_as (NamesParameter shape width) (HasNeed Widths shapes shape c.args.number m) _ _ c.in_ok-note_width-in-Port.ensures.sized (width_needed shapes shape c.args.number m width (ap width_of c.in-Port.is) (λ i e. (let f = sym c.in-Port.is ∙ e in absurd (cc))))

pub returns-in-Timer-clause-timed : goal.returns-in-Timer-clause-timed
returns-in-Timer-clause-timed c =
    let shapes = c.args.shapes.now in
    let shape = c.args.shape.now in
    let m = c.args.inherited.member.now in
    let timer = c.in-Timer.timer in
    let needed = time_needed shapes shape c.args.number m (timer.offset ∷ timer.period ∷ []) (ap times_of_member c.in-Timer.is) (λ i e. (let f = sym c.in-Timer.is ∙ e in absurd (cc))) in
    let both = among_two shape timer.offset timer.period in
    marks_on (IsTimeIn shape timer.offset) (IsTimeIn shape timer.period) (HasNeed Times shapes shape c.args.number m) _ _ _ c.note_time.ensures.timed c.note_time-in-Timer.ensures.timed (λ n. (λ h. (needed n).0 ((both n).0 h), λ g. (both n).1 ((needed n).1 g)))
