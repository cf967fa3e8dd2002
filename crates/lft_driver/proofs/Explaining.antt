-- Faults of explaining, which tell nothing of the texts.
use Rattle.std.proofs.Common.{◌≡◌, ◌≢◌, ◌⊎◌, inl, inr, ℕ, Bool, IfErr, Result, Ok, Err, List, ◌++◌, Option, true, refl, subst}
use Rattle.std.{specs.Io.KnownBytes.{Appends, Keeps}, proofs.KnownBytes.Appends-kept}
use Rattle.lft_ir.specs.{declared.steps.row.Row.Row, Parts.Parts}
use Rattle.lft_model.specs.{Plans.PlanParts, Workers.IsWorkers}
use Rattle.lft_check.specs.{declared.verdict.Verdict.Verdict, Verdicts.IsVerdict}
use Rattle.lft_load.specs.{Refusals.is_of_text, Written.AppendsFront, declared.fault.Fault.Fault}
use Rattle.lft_driver.specs.{Refusals.{IsRefusedGrowth, CheckRefusal.by_growth}, Lines.line_of}
use Rattle.lft_driver.specs.Explained.{StandsBehind, IsExplanation, Writes, ExplainingRefusal, ExplainingRefusal.{by_check, by_line, by_writer}}
use Rattle.lft_driver.specs.inner.Explained.{WriteRefusal}
use Rattle.lft_driver.proofs.{Judging.{refusal_untold, write_untold}, Behind.{writes_both, front_both, growth_kept}}
use Rattle.lft_load.specs.declared.fault.Part.TheVariants as part

module _ (all : Bool) (plan : PlanParts) (rows : List Row) (workers : ℕ) (program : Parts) (same : program ≡ plan.program) (verdict : Verdict) (right : IsVerdict plan rows verdict) (lawful : IsWorkers workers) (old mid new : Option (List ℕ)) where
  -- the writer failed on the line, or there was no memory for it
  pub line_refused : (f : Fault) → IsRefusedGrowth f ⊎ (f.part ≡ part.Write) × (f.number ≡ 1) × AppendsFront old mid (line_of program verdict) → (f.part ≢ part.Write → Keeps old mid) → ExplainingRefusal all plan rows workers old mid f
  line_refused f (inl x) k = by_check (by_growth x lawful) (inl (growth_kept f old mid x k))
  line_refused f (inr x) k = by_line verdict x.0 x.1 right (subst (λ p. AppendsFront old mid (line_of p verdict)) same x.2)

  module _ (line : Appends old mid (line_of program verdict)) where
    first : Appends old mid (line_of plan.program verdict)
    first = subst (λ p. Appends old mid (line_of p verdict)) same line

    joins : (rest : List ℕ) → StandsBehind all plan rows verdict rest → IsExplanation all plan rows verdict (line_of plan.program verdict ++ rest)
    joins rest is = (rest, is, refl)

    -- the line was written, and then what stands behind it
    pub all_written : Writes (StandsBehind all plan rows verdict) mid new → Writes (IsExplanation all plan rows verdict) old new
    all_written = writes_both (StandsBehind all plan rows verdict) (IsExplanation all plan rows verdict) (line_of plan.program verdict) joins old mid new first

    -- the line was written, and what stands behind it wasn't
    pub rest_refused : (f : Fault) → WriteRefusal (StandsBehind all plan rows verdict) mid new f → ExplainingRefusal all plan rows workers old new f
    rest_refused f (inl x) = by_check (by_growth (inr (x.0, x.1)) lawful) (inr (x.0, (verdict, right, Appends-kept old mid new (line_of plan.program verdict) first x.2)))
    rest_refused f (inr (p, n, rest)) =
        let whole = front_both (StandsBehind all plan rows verdict) (IsExplanation all plan rows verdict) (line_of plan.program verdict) joins old mid new first rest.0 rest.1 rest.2 in
        by_writer verdict whole.0 p n right whole.1 whole.2

module _ (all : Bool) (plan : PlanParts) (rows : List Row) (workers : ℕ) (old new : Option (List ℕ)) where
  -- where rows get no explanation, the fault tells nothing of the texts
  pub explaining_untold : (f : Fault) → ExplainingRefusal all plan rows workers old new f → is_of_text f.part f.number ≡ true → ⊥
  explaining_untold f (by_check x k) t = refusal_untold workers f x t
  explaining_untold f (by_line v p n x y) t = write_untold f.part f.number p t
  explaining_untold f (by_writer v text p n x y z) t = write_untold f.part f.number p t

  -- where neither the writer failed nor memory was refused, nothing was written
  explaining_keeps : (f : Fault) → ExplainingRefusal all plan rows workers old new f → f.part ≢ part.Write → f.part ≢ part.Memory → Keeps old new
  explaining_keeps f (by_check x (inl k)) w m = k
  explaining_keeps f (by_check x (inr k)) w m = absurd (m k.0)
  explaining_keeps f (by_line v p n x y) w m = absurd (w p)
  explaining_keeps f (by_writer v text p n x y z) w m = absurd (w p)

  pub explaining_kept : (r : Result Verdict Fault) → IfErr r (ExplainingRefusal all plan rows workers old new) → IfErr r (λ f. f.part ≢ part.Write → f.part ≢ part.Memory → Keeps old new)
  explaining_kept (Ok v) h = h
  explaining_kept (Err f) h = explaining_keeps f h
