-- Why two traces, from texts, get no comparison: the fault of the first layer that refuses.
use Rattle.std.specs.Prelude.{◌≡◌, ◌⊎◌, ℕ, List, Option}
use Rattle.lft_ir.specs.{Parts.Parts, declared.steps.row.Row.Row}
use Rattle.lft_model.specs.Plans.{PlanParts}
use Rattle.lft_load.specs.{Meaning.{IsPlanOf, OfOnly}, Refusals.LoadRefusal, Written.AppendsFront, declared.fault.Fault.Fault}
use Rattle.lft_driver.specs.{Lines.line_of_pair, Meaning.HasTable, Pairs.{HaveTables, IsPairing}, Refusals.{CheckRefusal, TraceRefusal}}
use Rattle.lft_driver.specs.declared.paired.Paired.{Paired}
use Rattle.lft_load.specs.declared.fault.Part.TheVariants as part

-- the first text is no trace table of the program, or the first is one and the second isn't
abbrev pub TracesRefusal : Parts → List ℕ → List ℕ → Fault → Type 0
TracesRefusal program first second f = TraceRefusal program first f ⊎ ((rows : List Row) × HasTable program first rows × TraceRefusal program second f)

-- a plan and two traces get no written comparison: by the checker or for want of memory they get none, or the writer failed on its line
pub data PairingRefusal (plan : PlanParts) (rows others : List Row) (workers : ℕ) (old new : Option (List ℕ)) (f : Fault) : Type 0 where
  by_check : CheckRefusal workers f → PairingRefusal plan rows others workers old new f
  by_writer : (said : Paired) → f.part ≡ part.Write → f.number ≡ 1 → IsPairing plan rows others said → AppendsFront old new (line_of_pair plan.program said) → PairingRefusal plan rows others workers old new f

-- two texts get no comparison under a plan: one is no trace table, or their rows get none
pub data PairRefusalUnder (plan : PlanParts) (first second : List ℕ) (workers : ℕ) (old new : Option (List ℕ)) (f : Fault) : Type 0 where
  by_traces : TracesRefusal plan.program first second f → PairRefusalUnder plan first second workers old new f
  by_pairing : (rows others : List Row) → HaveTables plan.program first second rows others → PairingRefusal plan rows others workers old new f → PairRefusalUnder plan first second workers old new f

-- the four texts get no comparison: the first two have no plan, or the others get none under it
abbrev pub PairRefusal : List ℕ → List ℕ → List ℕ → List ℕ → ℕ → Option (List ℕ) → Option (List ℕ) → Fault → Type 0
PairRefusal program externals first second workers old new f = LoadRefusal program externals f ⊎ OfOnly (IsPlanOf program externals) (λ plan. PairRefusalUnder plan first second workers old new f)
