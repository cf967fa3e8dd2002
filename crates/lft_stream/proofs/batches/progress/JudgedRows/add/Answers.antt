use Rattle.std.proofs.Common.{◌∙◌, ◌++◌, List, Vec, ap, refl, sym, subst}
use Rattle.std.specs.declared.alloc.Global.{Global}
use Rattle.lft_ir.specs.{Steps.Fits.RowsFit, declared.steps.row.Row.Row}
use Rattle.lft_stream.{specs.inner.Batches.Progresses.IsJudgedTo, proofs.BatchesLemmas.{Cutting.{first_fits, left_fits, next_fits}, Progressing.all_there}}
use Rattle.lft_stream.proofs.batches.progress.JudgedRows.add.Goals as goal

pub judge-requires-clause-fit : goal.judge-requires-clause-fit
judge-requires-clause-fit c =
    let cut = c.in-Some.cut in
    let batch = c.args.batch.now in
    let is = c.in-Some.ensures.rows ∙ ap (λ (v : Vec Row Global). v.items ++ batch) c.replace-waiting.ensures.value in
    subst (RowsFit c.args.plan.now.program) (sym c.as_slice.ensures.value) (first_fits c.args.plan.now.program c.args.self.now.waiting.items batch cut.first.items cut.next.now cut.waiting.items c.requires.stands.1.fit c.requires.fit is c.in-Some.ensures.few.0)

pub judge-requires-clause-stands : goal.judge-requires-clause-stands
judge-requires-clause-stands c =
    let so = c.requires.stands.1 in
    (so.judged, record { stands = so.stands.stands; left = so.stands.left })

pub judge-requires-else-not-judge-clause-fit : goal.judge-requires-else-not-judge-clause-fit
judge-requires-else-not-judge-clause-fit c =
    let cut = c.in-Some.cut in
    let batch = c.args.batch.now in
    let is = c.in-Some.ensures.rows ∙ ap (λ (v : Vec Row Global). v.items ++ batch) c.replace-waiting.ensures.value in
    next_fits c.args.plan.now.program c.args.self.now.waiting.items batch cut.first.items cut.next.now cut.waiting.items c.requires.stands.1.fit c.requires.fit is c.in-Some.ensures.few.1

pub judge-requires-else-not-judge-clause-stands : goal.judge-requires-else-not-judge-clause-stands
judge-requires-else-not-judge-clause-stands c =
    let so = c.requires.stands.1 in
    (_, c.if-not-judge.ensures refl so.judged (record { stands = so.stands.stands; left = so.stands.left }))

pub returns : goal.returns
returns c = λ _ t so.
    let plan = c.args.plan.now in
    let cut = c.in-Some.cut in
    let waited = c.args.self.now.waiting.items in
    let batch = c.args.batch.now in
    let is = c.in-Some.ensures.rows ∙ ap (λ (v : Vec Row Global). v.items ++ batch) c.replace-waiting.ensures.value in
    let first = subst (λ (r : List Row). IsJudgedTo plan (so.judged ++ r) c.judge.new.self) c.as_slice.ensures.value (c.if-not-judge.ensures refl so.judged (record { stands = so.stands.stands; left = so.stands.left })) in
    let second = c.if-not-judge-2.ensures refl (so.judged ++ cut.first.items) first in
    record {
      judged = (so.judged ++ cut.first.items) ++ cut.next.now;
      stands = record { stands = second.stands; left = second.left };
      fit = left_fits plan.program waited batch cut.first.items cut.next.now cut.waiting.items so.fit c.requires.fit is c.in-Some.ensures.few.2;
      all = all_there so.judged waited t batch cut.first.items cut.next.now cut.waiting.items so.all is;
    }
