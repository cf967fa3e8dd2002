use Rattle.std.proofs.Common.{◌++◌, ◌∙◌, List, IsTrue, refl, sym, ap, subst}
use Rattle.lft_tag.specs.declared.Tag.{Tag}
use Rattle.lft_ir.specs.declared.steps.row.Row.{Row}
use Rattle.lft_model.specs.{Fitting.EachFits, Presence.stop}
use Rattle.lft_stream.specs.inner.Owed.{MeetNowhere}
use Rattle.lft_monitor.proofs.{Behind.past_more, Keeping.{some_fit, stop_kept}}
use Rattle.lft_monitor.proofs.past.Past.add.Goals as goal

pub keep_rows-requires : goal.keep_rows-requires
keep_rows-requires c = record { fit = c.requires.fit.each; ways = c.requires.stands.1.ways }

pub stop_over-self-requires : goal.stop_over-self-requires
stop_over-self-requires c =
    let plan = c.args.plan.now in
    let rows = c.args.rows.now in
    let t = c.requires.stands.0 in
    let apart : IsTrue c.args.is_apart → MeetNowhere (stop plan (t ++ rows)) plan (t ++ rows) c.after-low.result = λ yes. subst (λ (g : Tag). MeetNowhere (stop plan (t ++ rows)) plan (t ++ rows) g) (sym c.after-low.ensures) (c.requires.stands.4 c.row_at.result c.row_at.ensures yes) in
    (plan.program, subst (λ (m : List Row). EachFits plan.program m) (sym c.as_slice-2.ensures.value) (some_fit plan rows c.in_ok-more.more.items (c.in_ok-more.ensures (stop plan (t ++ rows)) (t ++ rows) apart).own c.requires.fit.each))

pub drop_some-requires : goal.drop_some-requires
drop_some-requires c =
    let plan = c.args.plan.now in
    let rows = c.args.rows.now in
    let t = c.requires.stands.0 in
    let is = c.requires.stands.1 in
    let kept = c.in-Ok.ensures.items ∙ ap (λ (m : List Row). c.args.self.now.kept.items ++ m) c.as_slice.ensures.value in
    let last = c.row_at.ensures in
    let apart : IsTrue c.args.is_apart → MeetNowhere (stop plan (t ++ rows)) plan (t ++ rows) c.after-low.result = λ yes. subst (λ (g : Tag). MeetNowhere (stop plan (t ++ rows)) plan (t ++ rows) g) (sym c.after-low.ensures) (c.requires.stands.4 c.row_at.result last yes) in
    let some = c.in_ok-more.ensures (stop plan (t ++ rows)) (t ++ rows) apart in
    let stops = c.stop_over-self.ensures plan t is.stop_is ∙ ap (λ (m : List Row). stop plan (t ++ m)) c.as_slice-2.ensures.value ∙ stop_kept plan t rows c.in_ok-more.more.items some.asks in
    (t ++ rows, past_more plan t rows c.row_at.result c.requires.some last c.requires.stands.2 c.args.self.now _ is c.requires.fit (c.requires.stands.3 c.row_at.result last) c.after-low.ensures stops refl c.in_ok-more.more.items some kept)

pub returns : goal.returns
returns c = λ t is rises clean meet.
    let plan = c.args.plan.now in
    let rows = c.args.rows.now in
    let kept = c.in-Ok.ensures.items ∙ ap (λ (m : List Row). c.args.self.now.kept.items ++ m) c.as_slice.ensures.value in
    let last = c.row_at.ensures in
    let apart : IsTrue c.args.is_apart → MeetNowhere (stop plan (t ++ rows)) plan (t ++ rows) c.after-low.result = λ yes. subst (λ (g : Tag). MeetNowhere (stop plan (t ++ rows)) plan (t ++ rows) g) (sym c.after-low.ensures) (meet c.row_at.result last yes) in
    let some = c.in_ok-more.ensures (stop plan (t ++ rows)) (t ++ rows) apart in
    let stops = c.stop_over-self.ensures plan t is.stop_is ∙ ap (λ (m : List Row). stop plan (t ++ m)) c.as_slice-2.ensures.value ∙ stop_kept plan t rows c.in_ok-more.more.items some.asks in
    c.in_ok-drop_some.ensures (t ++ rows) (past_more plan t rows c.row_at.result c.requires.some last rises c.args.self.now _ is c.requires.fit (clean c.row_at.result last) c.after-low.ensures stops refl c.in_ok-more.more.items some kept) apart
