-- A trace that is read and judged batch by batch.
use Rattle.std.proofs.Common.{◌≡◌, ◌∙◌, ℕ, ◌≤◌, List, [], ◌∷◌, ◌++◌, Option, length, sym, ap, subst, arith}
use Rattle.std.{specs.List.AllZip, proofs.lemmas.List.{append_assoc, append-nil}}
use Rattle.lft_ir.specs.declared.steps.row.Row.{Row}
use Rattle.lft_model.specs.{Plans.PlanParts, Accepted.IsAccepted}
use Rattle.lft_tables.specs.{Records.records_of, declared.records.Records.Records, inner.Records.{IsPlain, records_left}}
use Rattle.lft_tables.proofs.{TableFacts.Texts, Together.zipped}
use Rattle.lft_trace.specs.{Traces.{IsRow, Table, header}, inner.Batches.{AreLast, AreNext}}
use Rattle.lft_stream.specs.inner.Batches.Progresses.{HaveAcceptedRows, IsJudgedTo}
use Rattle.lft_stream.specs.declared.{batches.progress.JudgedRows.JudgedRows, stream.RunCounts.RunCounts}

-- no rows are judged at once
pub none_judged : (plan : PlanParts) (t rows : List Row) (progress : JudgedRows) → length rows ≡ 0 → IsJudgedTo plan t progress → IsJudgedTo plan (t ++ rows) progress
none_judged plan t [] progress none so = subst (λ (r : List Row). IsJudgedTo plan r progress) (sym (append-nil t)) so
none_judged plan t (x ∷ rows) progress none so = absurd (omega arith)

-- rows that waited and a batch behind them, where some were judged in two parts and others wait
pub all_there : (judged waited t batch first second waiting : List Row) → judged ++ waited ≡ t → (first ++ second) ++ waiting ≡ waited ++ batch → ((judged ++ first) ++ second) ++ waiting ≡ t ++ batch
all_there judged waited t batch first second waiting all cut = one ∙ ap (λ (r : List Row). judged ++ r) cut ∙ sym (append_assoc judged waited batch) ∙ ap (λ (r : List Row). r ++ batch) all
  where
    one : ((judged ++ first) ++ second) ++ waiting ≡ judged ++ ((first ++ second) ++ waiting)
    one = simp append_assoc

module _ {R : Type 0} (remaining : R → Option (List ℕ)) (plan : PlanParts) (old mid : Records R) (t batch : List Row) (before : AreNext remaining plan.program old mid t) where
  -- rows that come next behind those before
  pub more_next : (new : Records R) → AreNext remaining plan.program mid new batch → AreNext remaining plan.program old new (t ++ batch)
  more_next new b = record {
    first = before.first ++ b.first;
    each = zipped (IsRow plan.program) before.first b.first t batch before.each b.each;
    left = λ plain.
        let x = before.left plain in
        let y = b.left x.0 in
        (y.0, x.1 ∙ ap (λ (r : Texts). before.first ++ r) y.1 ∙ sym (append_assoc before.first b.first (records_left remaining new)));
  }

  -- the last ones behind them, which are accepted with those
  pub last_accepted : (counts : RunCounts) → AreLast remaining plan.program mid batch → length (t ++ batch) ≤ 4000000 → IsAccepted plan (t ++ batch) counts.runs counts.tags → IsPlain remaining old → HaveAcceptedRows plan (records_left remaining old) counts
  last_accepted counts b few accepted plain =
      let x = before.left plain in
      let whole : records_left remaining old ≡ before.first ++ b.first = x.1 ∙ ap (λ (r : Texts). before.first ++ r) (b.left x.0) in
      (t ++ batch, subst (λ (r : Texts). AllZip (IsRow plan.program) r (t ++ batch)) (sym whole) (zipped (IsRow plan.program) before.first b.first t batch before.each b.each), few, accepted)

-- below the header, accepted rows are those of a table
pub table_of : (plan : PlanParts) (text : List ℕ) (records : Texts) (counts : RunCounts) → records_of text ≡ header ∷ records → HaveAcceptedRows plan records counts → (rows : List Row) × Table plan.program (records_of text) rows × IsAccepted plan rows counts.runs counts.tags
table_of plan text records counts under (rows, each, few, accepted) = (rows, record { rest = records; under = under; each = each; few = few }, accepted)
