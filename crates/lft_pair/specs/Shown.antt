-- What shows the difference of two traces.
use Rattle.std.specs.Prelude.{◌≡◌, ℕ, List}
use Rattle.lft_tag.specs.declared.Tag.{Tag}
use Rattle.lft_ir.specs.declared.steps.row.Row.{Row}
use Rattle.lft_model.specs.Plans.{PlanParts}
use Rattle.lft_pair.specs.{declared.contrasting.contrasts.Contrast.Contrast, Contrasts.AreContrasts, Enough.{GiveOther, TellsAll}, Told.told_contrasts}

-- the text tells contrasts that hold of the runs of r at g in the two traces, that give the unequal answer of r at g, and of which none is left out
pub record ShowsDifference (plan : PlanParts) (t s : List Row) (g : Tag) (r : ℕ) (text : List ℕ) : Type 0 where
  pub contrasts : List Contrast
  pub holds : AreContrasts plan t s g r contrasts
  pub enough : GiveOther contrasts g r
  pub all : TellsAll plan t s g r contrasts
  pub is_told : text ≡ told_contrasts plan.program g r contrasts
