-- Faults that tell nothing of the texts of two traces.
use Rattle.std.proofs.Common.{◌≡◌, ◌⊎◌, inl, inr, ℕ, List, Option, true, subst}
use Rattle.lft_ir.specs.declared.steps.row.Row.{Row}
use Rattle.lft_tables.specs.Records.{records_of}
use Rattle.lft_trace.specs.Traces.{Table}
use Rattle.lft_model.specs.Plans.{PlanParts}
use Rattle.lft_load.specs.{Meaning.{IsOnly, IsPlanOf}, Refusals.is_of_text, declared.fault.Fault.Fault}
use Rattle.lft_driver.specs.{Meaning.IsNoTrace, Pairs.MeanBoth, PairRefusals.{PairingRefusal, PairingRefusal.{by_check, by_writer}}}
use Rattle.lft_driver.proofs.Judging.{refusal_untold, rows_of_plan, write_untold}

-- where a plan and two traces get no comparison, the fault tells nothing of the texts
pub pairing_untold : (plan : PlanParts) (rows others : List Row) (workers : ℕ) (old new : Option (List ℕ)) (f : Fault) → PairingRefusal plan rows others workers old new f → is_of_text f.part f.number ≡ true → ⊥
pairing_untold plan rows others workers old new f (by_check x) t = refusal_untold workers f x t
pairing_untold plan rows others workers old new f (by_writer s p n x z) t = write_untold f.part f.number p t

-- where one of two texts is no trace table under the one plan of two others, the four have no meaning
pub none_of_both : (program externals first second : List ℕ) (plan : PlanParts) → IsOnly (IsPlanOf program externals) plan → IsNoTrace plan.program first ⊎ IsNoTrace plan.program second → (other : PlanParts) (one two : List Row) → ¬ MeanBoth program externals first second other one two
none_of_both program externals first second plan only (inl h) other one two x = h one (rows_of_plan program externals first plan only other one x.is_first)
none_of_both program externals first second plan only (inr h) other one two x = h two (subst (λ (p : PlanParts). Table p.program (records_of second) two) (only.only other x.is_first.is_plan) x.is_second)
