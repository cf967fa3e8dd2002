-- What is answered of a trace table is right under its plan.
use Rattle.std.proofs.Common.{◌≡◌, ◌⊎◌, ◌++◌, inl, inr, ℕ, Bool, true, false, List, [], IfErr, OnOk, Option, Result, Ok, Err, refl, sym, ap, ◌∙◌, subst, append-nil, length}
use Rattle.std.specs.Io.KnownBytes.{Appends}
use Rattle.lft_ir.specs.{Parts.Parts, declared.steps.row.Row.Row}
use Rattle.lft_tables.specs.Records.{records_of}
use Rattle.lft_trace.specs.Traces.{Table}
use Rattle.lft_model.specs.{Plans.PlanParts, declared.breach.Breach.Breach, OneWorker.{LegalRunsAreOneWorker, LegalRunsKeepPrecedence}, Workers.IsWorkers}
use Rattle.lft_check.specs.Verdicts.{IsVerdict}
use Rattle.lft_counts.specs.{Cover.CoversRows, declared.cover.Cover.Cover}
use Rattle.lft_coverage.specs.{inner.{Facts.HasCounts, Driver.Covered.{IsCovered, IsCoveredTable, IsCoverText, IsUncovered, verdict_in}}, Facts.fact_lines}
use Rattle.lft_coverage.specs.Sums.{TellsSums}
use Rattle.lft_coverage.specs.Driver.Covered.{CoverRefusalUnder, IsBehind, IsJudgedCoverUnder, IsTold, CoverRefusalUnder.{by_check, by_trace, by_writer}}
use Rattle.lft_coverage.specs.declared.driver.covered.Covered.{Covered, TheVariants.{Accepted, Broken}}
use Rattle.lft_load.specs.{Faults.table_number, Refusals.is_of_text, Written.AppendsFront, declared.fault.Fault.Fault}
use Rattle.lft_load.proofs.Loading.{memory_untold, told_at, trace_told}
use Rattle.lft_driver.specs.{inner.Explained.WriteRefusal, Explained.Writes, Lines.line_of, Refusals.CheckRefusal.by_growth}
use Rattle.lft_driver.proofs.Judging.{accepted_runs, refusal_untold, write_untold}
use Rattle.lft_load.specs.declared.fault.Part.TheVariants as part

-- what was written of one kind is of another
pub written_as : {T E : Type 0} {P Q : List ℕ → Type 0} (old new : Option (List ℕ)) (r : Result T E) → OnOk r (Writes P old new) → ((text : List ℕ) → P text → Q text) → OnOk r (Writes Q old new)
written_as old new (Ok x) (text, is, w) f = (text, f text is, w)
written_as old new (Err e) h f = tt

-- and so is what wasn't
pub refused_as : {T : Type 0} {P Q : List ℕ → Type 0} (old new : Option (List ℕ)) (r : Result T Fault) → IfErr r (WriteRefusal P old new) → ((text : List ℕ) → P text → Q text) → IfErr r (WriteRefusal Q old new)
refused_as old new (Ok x) h f = tt
refused_as old new (Err e) (inl x) f = inl x
refused_as old new (Err e) (inr (p, n, (text, is, front))) f = inr (p, n, (text, f text is, front))

-- what covers rows has a count for each thing
pub has_counts : (program : Parts) (t : List Row) (n : ℕ) (cover : Cover) → CoversRows program t n cover → HasCounts program cover
has_counts program t n cover so = record {
  reactions = so.counts.counted.reactions;
  ports = so.counts.counted.ports;
  met = record { as_long = so.counts.overlapped.met.as_long; room = so.counts.overlapped.met.room };
}

pub counts_of : (plan : PlanParts) (rows : List Row) (covered : Covered) {runs tags : ℕ} {cover : Cover} → covered ≡ Accepted runs tags cover → IsCovered plan rows covered → HasCounts plan.program cover
counts_of plan rows covered {runs} {tags} {cover} is x = has_counts plan.program rows (length rows) cover (subst (λ k. IsCovered plan rows k) is x).1

-- the line of a verdict, and what stands behind it
module _ (list : Bool) (plan : PlanParts) (covered : Covered) (line text : List ℕ) (is_line : line ≡ line_of plan.program (verdict_in covered)) where
  -- the facts
  pub listed_text : {runs tags : ℕ} {cover : Cover} → list ≡ true → covered ≡ Accepted runs tags cover → text ≡ line ++ fact_lines plan.program cover → IsCoverText list plan covered text
  listed_text {runs} {tags} {cover} e is t rows x =
      let facts = fact_lines plan.program cover in
      let told : IsTold list plan rows facts = subst (λ b. IsTold b plan rows facts) (sym e) (cover, (subst (λ k. IsCovered plan rows k) is x).1, refl) in
      (facts, t ∙ ap (λ z. z ++ facts) is_line, subst (λ k. IsBehind list plan rows (verdict_in k) facts) (sym is) told)

  -- the text for people
  pub people_text : {runs tags : ℕ} {cover : Cover} → list ≡ false → covered ≡ Accepted runs tags cover → (told : List ℕ) × (text ≡ line ++ told) × TellsSums plan.program cover told → IsCoverText list plan covered text
  people_text {runs} {tags} {cover} e is (words, t, tells) rows x =
      let told : IsTold list plan rows words = subst (λ b. IsTold b plan rows words) (sym e) (cover, (subst (λ k. IsCovered plan rows k) is x).1, tells) in
      (words, t ∙ ap (λ z. z ++ words) is_line, subst (λ k. IsBehind list plan rows (verdict_in k) words) (sym is) told)

  -- nothing
  pub broken_text : {b : Breach} → covered ≡ Broken b → text ≡ line → IsCoverText list plan covered text
  broken_text {b} is t rows x = ([], t ∙ is_line ∙ sym (append-nil (line_of plan.program (verdict_in covered))), subst (λ k. IsBehind list plan rows (verdict_in k) []) (sym is) refl)

-- the verdict alone is right
pub right_verdict : (plan : PlanParts) (rows : List Row) (covered : Covered) → IsCovered plan rows covered → IsVerdict plan rows (verdict_in covered)
right_verdict plan rows (Accepted runs tags cover) is = is.0
right_verdict plan rows (Broken b) is = is

module _ (list : Bool) (plan : PlanParts) (trace : List ℕ) (workers : ℕ) (old new : Option (List ℕ)) where
  module _ (covered : Covered) (x : IsCoveredTable plan trace covered) where
    -- the text was written
    pub judged : LegalRunsAreOneWorker plan → LegalRunsKeepPrecedence plan → Writes (IsCoverText list plan covered) old new → IsJudgedCoverUnder list plan trace old new (verdict_in covered)
    judged runs order (text, is, written) =
        let right = right_verdict plan x.0 covered x.2 in
        let y = is x.0 x.2 in
        record { rows = x.0; has_table = x.1; right = right; one_worker = accepted_runs plan x.0 runs order (verdict_in covered) right; behind = y.0; told = y.2; written = subst (λ bytes. Appends old new bytes) y.1 written }

    -- it wasn't, for want of memory or by the writer
    pub unwritten : IsWorkers workers → (f : Fault) → WriteRefusal (IsCoverText list plan covered) old new f → CoverRefusalUnder list plan trace workers old new f
    unwritten lawful f (inl (m, n, k)) = by_check x.0 x.1 (by_growth (inr (m, n)) lawful)
    unwritten lawful f (inr (p, n, (text, is, front))) =
        let y = is x.0 x.2 in
        by_writer x.0 (verdict_in covered) y.0 p n x.1 (right_verdict plan x.0 covered x.2) y.2 (subst (λ bytes. AppendsFront old new bytes) y.1 front)

  -- the table has no verdict
  pub refused : (f : Fault) → IsUncovered plan trace workers f → CoverRefusalUnder list plan trace workers old new f
  refused f (inl (rows, table, x)) = by_check rows table x
  refused f (inr x) = by_trace x

  -- a fault that is of the text
  pub refused_none : (f : Fault) → IsUncovered plan trace workers f → is_of_text f.part f.number ≡ true → (rows : List Row) → Table plan.program (records_of trace) rows → ⊥
  refused_none f (inl (own, is, x)) t rows table = refusal_untold workers f x t
  refused_none f (inr x) t rows table = (x.3 (trace_told x.0 (told_at f.part part.Trace f.number (table_number x.0) x.1 x.2 t))).1 rows table

module _ (P : List ℕ → Type 0) (old new : Option (List ℕ)) (f : Fault) where
  pub unwritten_none : WriteRefusal P old new f → is_of_text f.part f.number ≡ true → ⊥
  unwritten_none (inl (m, n, k)) t = memory_untold f.part f.number m t
  unwritten_none (inr (p, n, w)) t = write_untold f.part f.number p t
