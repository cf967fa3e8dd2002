use Rattle.std.proofs.Common.{◌∙◌, ◌++◌, List, ap, refl, sym, subst}
use Rattle.lft_ir.specs.{Steps.Fits.RowsFit, declared.steps.row.Row.Row}
use Rattle.lft_trace.specs.inner.Telling.{rows_in}
use Rattle.lft_coverage.{specs.inner.Driver.Fronts.{IsNextBehind, judged_rows}, proofs.DriverLemmas.Fronts.{first_next, second_next, third_left}}
use Rattle.lft_stream.proofs.BatchesLemmas.Cutting.{first_fits, left_fits, next_fits}
use Rattle.lft_coverage.proofs.driver.front.add_batch.Goals as goal

pub judge-requires-clause-fit : goal.judge-requires-clause-fit
judge-requires-clause-fit c =
    let cut = c.in_ok-cut.cut in
    subst (RowsFit c.args.plan.now.program) (sym c.as_slice.ensures.value) (first_fits c.args.plan.now.program c.args.waiting.items c.args.batch.now cut.first.items cut.next.now cut.waiting.items c.requires.open_fit c.requires.batch_fit c.in_ok-cut.ensures.rows c.in_ok-cut.ensures.few.0)

pub judge-requires-clause-next : goal.judge-requires-clause-next
judge-requires-clause-next c =
    let cut = c.in_ok-cut.cut in
    let plan = c.args.plan.now in
    let body = c.args.body.now in
    let front = c.args.front.now in
    subst (IsNextBehind plan body front) (sym c.as_slice.ensures.value) (_, first_next (judged_rows plan body front) c.args.waiting.items c.args.batch.now cut.first.items cut.next.now cut.waiting.items c.in_ok-cut.ensures.rows (rows_in plan.program body) c.requires.next.0 c.requires.next.1)

pub judge-requires-else-not-judge-clause-fit : goal.judge-requires-else-not-judge-clause-fit
judge-requires-else-not-judge-clause-fit c =
    let cut = c.in_ok-cut.cut in
    next_fits c.args.plan.now.program c.args.waiting.items c.args.batch.now cut.first.items cut.next.now cut.waiting.items c.requires.open_fit c.requires.batch_fit c.in_ok-cut.ensures.rows c.in_ok-cut.ensures.few.1

pub judge-requires-else-not-judge-clause-next : goal.judge-requires-else-not-judge-clause-next
judge-requires-else-not-judge-clause-next c =
    let cut = c.in_ok-cut.cut in
    let plan = c.args.plan.now in
    let body = c.args.body.now in
    let before = judged_rows plan body c.args.front.now in
    let first = c.if-not-judge.ensures.rows refl ∙ ap (λ (t : List Row). before ++ t) c.as_slice.ensures.value in
    (_, second_next before c.args.waiting.items c.args.batch.now cut.first.items cut.next.now cut.waiting.items c.in_ok-cut.ensures.rows (rows_in plan.program body) c.requires.next.0 (judged_rows plan body c.judge.new.self) first c.requires.next.1)

pub returns-clause-fit : goal.returns-clause-fit
returns-clause-fit c =
    let cut = c.in_ok-cut.cut in
    left_fits c.args.plan.now.program c.args.waiting.items c.args.batch.now cut.first.items cut.next.now cut.waiting.items c.requires.open_fit c.requires.batch_fit c.in_ok-cut.ensures.rows c.in_ok-cut.ensures.few.2

pub returns-clause-rows : goal.returns-clause-rows
returns-clause-rows c =
    let cut = c.in_ok-cut.cut in
    let plan = c.args.plan.now in
    let body = c.args.body.now in
    let before = judged_rows plan body c.args.front.now in
    let first = c.if-not-judge.ensures.rows refl ∙ ap (λ (t : List Row). before ++ t) c.as_slice.ensures.value in
    third_left before c.args.waiting.items c.args.batch.now cut.first.items cut.next.now cut.waiting.items c.in_ok-cut.ensures.rows (judged_rows plan body c.judge.new.self) (judged_rows plan body c.judge-else-not-judge.new.self) first (c.if-not-judge-2.ensures.rows refl)
