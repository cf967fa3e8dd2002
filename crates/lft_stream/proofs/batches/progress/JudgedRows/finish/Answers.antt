use Rattle.std.proofs.Common.{◌∙◌, ◌++◌, List, Vec, ap, refl, sym, subst, arith}
use Rattle.std.{specs.declared.alloc.Global.Global, proofs.lemmas.Option.IfSome_then}
use Rattle.lft_ir.specs.{Steps.Fits.RowsFit, declared.steps.row.Row.Row}
use Rattle.lft_stream.specs.inner.Batches.Progresses.{IsJudgedTo}
use Rattle.lft_stream.proofs.batches.progress.JudgedRows.finish.Goals as goal

pub judge-requires-clause-fit : goal.judge-requires-clause-fit
judge-requires-clause-fit c =
    let is = c.as_slice.ensures.value ∙ ap (λ (v : Vec Row Global). v.items) c.replace-waiting.ensures.value in
    subst (RowsFit c.args.plan.now.program) (sym is) c.requires.1.fit

pub judge-requires-clause-stands : goal.judge-requires-clause-stands
judge-requires-clause-stands c =
    let so = c.requires.1 in
    (so.judged, record { stands = so.stands.stands; left = so.stands.left })

pub returns : goal.returns
returns c =
    let is = c.as_slice.ensures.value ∙ ap (λ (v : Vec Row Global). v.items) c.replace-waiting.ensures.value in
    IfSome_then c.finish.result c.finish.ensures (λ counts accepted t so.
    let now = c.if-not-judge.ensures refl so.judged (record { stands = so.stands.stands; left = so.stands.left }) in
    let whole = subst (λ (r : List Row). IsJudgedTo c.args.plan.now r c.judge.new.self) (ap (λ (r : List Row). so.judged ++ r) is ∙ so.all) now in
    let left = whole.left in
    (omega (arith, left), accepted t whole.stands))
