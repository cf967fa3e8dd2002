-- Inside: what some contrasts give, and that none is left out.
use Rattle.std.specs.Prelude.{◌≡◌, ℕ, List, ◌++◌, Contains}
use Rattle.lft_tag.specs.declared.Tag.{Tag}
use Rattle.lft_ir.specs.declared.{parts.Name.Name, steps.row.Row.Row}
use Rattle.lft_model.specs.Plans.{PlanParts}
use Rattle.lft_pair.specs.{declared.contrasting.contrasts.{Placed.Placed, Contrast.Contrast}, Contrasts.AreContrasts, Enough.TellsOf}

-- the contrast tells of an effect
abbrev pub IsOfEffect : List Name → List Placed → List Placed → Contrast → Type 0
IsOfEffect effects mine theirs c = (n : Name) × Contains effects n × TellsOf mine theirs n c

-- contrasts that hold stand behind others
pub record Adds (plan : PlanParts) (t s : List Row) (g : Tag) (r : ℕ) (old new : List Contrast) : Type 0 where
  pub more : List Contrast
  pub is : new ≡ old ++ more
  pub holds : AreContrasts plan t s g r more
