use Rattle.std.proofs.Common.{◌≢◌, ◌≤◌, ◌++◌, ◌∙◌, List, length, ap, arith, refl, rules, sym, subst}
use Rattle.std.proofs.lemmas.{Bool.{eqb-false, eqb-true}, List.length-take-le, Option.IfSome_then}
use Rattle.lft_ir.specs.{Parts.Parts, Steps.Fits.RowsFit, declared.steps.row.Row.Row}
use Rattle.lft_trace.specs.{Traces.IsRow, inner.{Parts.BeginsWith, Telling.rows_in}}
use Rattle.lft_tables.proofs.Beginning.{begins_out}
use Rattle.lft_coverage.specs.inner.Driver.Fronts.{IsNextBehind, judged_rows}
use Rattle.lft_coverage.proofs.DriverLemmas.{Counting.counts_whole, Fronts.{batch_next, gone_on, nothing_read}}
use Rattle.lft_coverage.proofs.driver.front.add_text.Goals as goal

pub loop-rest-init : goal.loop-rest-init
loop-rest-init c =
    let none = nothing_read c.args.plan.now c.args.body.now c.args.front.now c.new-waiting.result.items c.requires.none c.new-waiting.ensures.items in
    record { stands = c.requires.stands; fit = search rules; next = none.0; begins = none.1 }

pub add_batch-requires-clause-open_fit : goal.add_batch-requires-clause-open_fit
add_batch-requires-clause-open_fit c = c.loop-rest.invariant.fit

pub add_batch-requires-clause-batch_fit : goal.add_batch-requires-clause-batch_fit
add_batch-requires-clause-batch_fit c =
    let fit = subst (λ (p : Parts). RowsFit p c.in_ok-batch.batch.items) (c.in-Ok.ensures ∙ c.program.ensures.value) c.in_ok-batch.ensures.fit in
    subst (RowsFit c.args.plan.now.program) (sym c.as_slice.ensures.value) fit

pub add_batch-requires-clause-stands : goal.add_batch-requires-clause-stands
add_batch-requires-clause-stands c = c.loop-rest.invariant.stands

pub add_batch-requires-clause-next : goal.add_batch-requires-clause-next
add_batch-requires-clause-next c =
    let plan = c.args.plan.now in
    let body = c.args.body.now in
    let rest = c.loop-rest.rest.now in
    let behind = c.in_ok-batch.behind.now in
    let batch = c.in_ok-batch.batch.items in
    let waiting = c.loop-rest.waiting.items in
    let more = subst (λ (p : Parts). BeginsWith p rest batch behind) (c.in-Ok.ensures ∙ c.program.ensures.value) c.in_ok-batch.ensures.rows in
    subst (λ (t : List Row). IsNextBehind plan body c.loop-rest.front (waiting ++ t)) (sym c.as_slice.ensures.value) (batch_next plan body c.loop-rest.front waiting rest behind batch c.loop-rest.invariant.begins more c.program.ensures.sound.sound)

pub loop-rest-preserved : goal.loop-rest-preserved
loop-rest-preserved c =
    let plan = c.args.plan.now in
    let body = c.args.body.now in
    let rest = c.loop-rest.rest.now in
    let behind = c.in_ok-batch.behind.now in
    let batch = c.in_ok-batch.batch.items in
    let waiting = c.loop-rest.waiting.items in
    let more = subst (λ (p : Parts). BeginsWith p rest batch behind) (c.in-Ok.ensures ∙ c.program.ensures.value) c.in_ok-batch.ensures.rows in
    let same = c.in_ok-waiting.ensures.rows ∙ ap (λ (t : List Row). judged_rows plan body c.loop-rest.front ++ (waiting ++ t)) c.as_slice.ensures.value in
    let on = gone_on plan body c.loop-rest.front waiting rest behind batch c.loop-rest.invariant.begins more c.add_batch.new.front c.in_ok-waiting.waiting.items c.program.ensures.sound.sound same in
    record { stands = c.in_ok-waiting.ensures.stands; fit = c.in_ok-waiting.ensures.fit; next = on.0; begins = on.1 }

pub loop-rest-smaller : goal.loop-rest-smaller
loop-rest-smaller c =
    let some : length c.loop-rest.rest.now ≢ 0 = eqb-false (length c.loop-rest.rest.now) 0 (sym c.is_empty.ensures ∙ c.loop-rest-test.true) in
    c.in_ok-batch.ensures.shorter (omega arith)

pub judge-requires-clause-fit : goal.judge-requires-clause-fit
judge-requires-clause-fit c = subst (RowsFit c.args.plan.now.program) (sym c.as_slice-2.ensures.value) c.loop-rest.invariant.fit

pub judge-requires-clause-stands : goal.judge-requires-clause-stands
judge-requires-clause-stands c = c.loop-rest.invariant.stands

pub judge-requires-clause-next : goal.judge-requires-clause-next
judge-requires-clause-next c = subst (λ (t : List Row). IsNextBehind c.args.plan.now c.args.body.now c.loop-rest.front t) (sym c.as_slice-2.ensures.value) c.loop-rest.invariant.next

pub returns : goal.returns
returns c =
    let plan = c.args.plan.now in
    let body = c.args.body.now in
    let front = c.judge.new.self in
    let rows = judged_rows plan body front in
    let stands = c.if-not-judge.ensures.stands refl in
    let all = c.if-not-judge.ensures.rows refl ∙ ap (λ (t : List Row). judged_rows plan body c.loop-rest.front ++ t) c.as_slice-2.ensures.value in
    let begins = subst (λ (t : List Row). BeginsWith plan.program body t c.loop-rest.rest.now) (sym all) c.loop-rest.invariant.begins in
    let none = eqb-true (length c.loop-rest.rest.now) 0 (sym c.is_empty.ensures ∙ c.loop-rest-test.false) in
    let long = length-take-le front.cover.rows (rows_in plan.program body) stands.within in
    let few : length rows ≤ 4000000 = (let up = stands.few in omega (arith, long, up)) in
    IfSome_then c.finish.result c.finish.ensures (λ counts accepted. (rows, begins_out (IsRow plan.program) body c.loop-rest.rest.now rows begins none, few, accepted rows stands.stands, counts_whole plan.program (rows_in plan.program body) front.cover.rows front.cover stands.within stands.covers))
