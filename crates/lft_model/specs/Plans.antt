-- What contracts see of a plan: the flat program and the external inputs.
use Rattle.lft_ir.specs.{Parts.Parts, Sound.IsSound, Steps.{Inputs.{ExternalInputs, InOrder}, Fits.ExternalsFit}}
use Rattle.lft_graph.specs.Precedence.{IsLevelled}

-- a program with the external inputs that it is given
pub record PlanParts : Type 0 where
  pub program : Parts
  pub externals : ExternalInputs

-- what holds of every plan: the reactions have levels, so none precedes itself; the external inputs are of the program, and none stands twice
pub record IsSoundPlan (plan : PlanParts) : Type 0 where
  pub sound : IsSound plan.program
  pub levels : IsLevelled plan.program
  pub in_order : InOrder plan.externals.events
  pub fit : ExternalsFit plan.program plan.externals
