-- Why a row asks for the stop, what feeds a port, and what a reaction declares.
use Rattle.std.proofs.Common.{◌≡◌, ℕ, ◌+◌, ◌<◌, List, [], length, ap, sym, unwrap_or, option_map, Option, Some, None, IfSome}
use Rattle.lft_lists.proofs.Places.{get_there}
use Rattle.lft_ir.specs.{Parts.{Parts, inputs}, declared.{parts.Reaction.Reaction, steps.row.Row.Row}}
use Rattle.lft_model.specs.{declared.breach.Breach.Breach, Plans.PlanParts, Runs.{inputs_of, effects_of}}
use Rattle.lft_facts.specs.{declared.facts.Reason.Reason, Enough.IsOwnReason, Reasons.{IsReason, HasInputs, HasEffects}}

-- a reason on a program is one on each plan of it
pub of_program : (o : Option Reason) (program : Parts) (plan : PlanParts) (t : List Row) → plan.program ≡ program → IfSome o (λ c. (p : PlanParts) (u : List Row) → p.program ≡ program → IsReason p u c) → IfSome o (IsReason plan t)
of_program None program plan t e h = tt
of_program (Some c) program plan t e h = h plan t e

-- a reason on rows is one on each plan
pub of_rows : (o : Option Reason) (plan : PlanParts) (t : List Row) → IfSome o (λ c. (p : PlanParts) → IsReason p t c) → IfSome o (IsReason plan t)
of_rows None plan t h = tt
of_rows (Some c) plan t h = h plan

-- what is said of each breach is so of one
pub own_always : (o : Option Reason) (b : Breach) → IfSome o (λ c. (x : Breach) → IsOwnReason x c) → IfSome o (IsOwnReason b)
own_always None b h = tt
own_always (Some c) b h = h b

pub own_of_row : (o : Option Reason) (b : Breach) (i : ℕ) → b.row ≡ i + 2 → IfSome o (λ c. (x : Breach) → x.row ≡ i + 2 → IsOwnReason x c) → IfSome o (IsOwnReason b)
own_of_row None b i p h = tt
own_of_row (Some c) b i p h = h b p

-- a reaction has the inputs and effects that its number leads to
pub has_inputs : (program : Parts) (r : ℕ) → r < length program.reactions → HasInputs program r (inputs_of program r)
has_inputs program r l = let x = get_there program.reactions r l in record { reaction = x.0; is_reaction = x.1; are = ap (λ (o : Option Reaction). unwrap_or (option_map inputs o) []) (sym x.1) }

pub has_effects : (program : Parts) (r : ℕ) → r < length program.reactions → HasEffects program r (effects_of program r)
has_effects program r l = let x = get_there program.reactions r l in record { reaction = x.0; is_reaction = x.1; are = ap (λ (o : Option Reaction). unwrap_or (option_map (λ (y : Reaction). y.effects) o) []) (sym x.1) }
