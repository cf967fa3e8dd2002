-- What is accepted, and faults that tell nothing of the texts.
use Rattle.std.proofs.Common.{◌≡◌, ℕ, inl, inr, List, true, subst}
use Rattle.lft_ir.specs.declared.steps.row.Row.{Row}
use Rattle.lft_tables.specs.Records.{records_of}
use Rattle.lft_trace.specs.Traces.{Table}
use Rattle.lft_model.specs.{Plans.PlanParts, OneWorker.{LegalRunsAreOneWorker, LegalRunsKeepPrecedence}}
use Rattle.lft_check.specs.{declared.verdict.Verdict.{Verdict, TheVariants.{Accepted, Broken}}, Verdicts.IsVerdict}
use Rattle.lft_driver.specs.{Judged.AcceptedRuns, Meaning.Mean, Refusals.{CheckRefusal, IsRefusedGrowth, CheckRefusal.{by_workers, by_growth}}}
use Rattle.lft_load.{specs.{Meaning.{IsPlanOf, IsOnly}, Refusals.is_of_text, declared.fault.{Fault.Fault, Part.Part}}, proofs.Loading.memory_untold}
use Rattle.lft_load.specs.declared.fault.Part.TheVariants as part

-- what is accepted is an execution by one worker
pub accepted_runs : (plan : PlanParts) (rows : List Row) → LegalRunsAreOneWorker plan → LegalRunsKeepPrecedence plan → (v : Verdict) → IsVerdict plan rows v → AcceptedRuns plan rows v
accepted_runs plan rows runs order (Accepted n m) x = (runs rows x.legal, order rows x.legal)
accepted_runs plan rows runs order (Broken b) x = tt

pub check_untold : (p : Part) (n : ℕ) → p ≡ part.Check → is_of_text p n ≡ true → ⊥
check_untold p n e t = let f : is_of_text part.Check n ≡ true = subst (λ k. is_of_text k n ≡ true) e t in cc f

pub write_untold : (p : Part) (n : ℕ) → p ≡ part.Write → is_of_text p n ≡ true → ⊥
write_untold p n e t = let f : is_of_text part.Write n ≡ true = subst (λ k. is_of_text k n ≡ true) e t in cc f

-- where rows get no verdict, the fault tells nothing of the texts
pub growth_untold : (f : Fault) → IsRefusedGrowth f → is_of_text f.part f.number ≡ true → ⊥
growth_untold f (inl x) t = check_untold f.part f.number x.0 t
growth_untold f (inr x) t = memory_untold f.part f.number x.0 t

pub refusal_untold : (workers : ℕ) (f : Fault) → CheckRefusal workers f → is_of_text f.part f.number ≡ true → ⊥
refusal_untold workers f (by_workers p n x) t = check_untold f.part f.number p t
refusal_untold workers f (by_growth x w) t = growth_untold f x t

-- the rows of three texts are those of its one plan
pub rows_of_plan : (program externals trace : List ℕ) (plan : PlanParts) → IsOnly (IsPlanOf program externals) plan → (other : PlanParts) (rows : List Row) → Mean program externals trace other rows → Table plan.program (records_of trace) rows
rows_of_plan program externals trace plan only other rows x = subst (λ p. Table p.program (records_of trace) rows) (only.only other x.is_plan) x.is_trace
