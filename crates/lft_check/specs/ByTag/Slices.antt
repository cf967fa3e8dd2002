-- What sliced rows and a cut tell: the rows at each tag, the first missing run, and the first tag without any run.
use Rattle.std.specs.Prelude.{◌≡◌, ℕ, ◌≤◌, ◌⊎◌, List, Option, MatchOption}
use Rattle.lft_tag.specs.{declared.Tag.Tag, Tags.{Before, UpTo}}
use Rattle.lft_model.specs.{Plans.PlanParts, Presence.{stop, Triggered}, Runs.Ran}
use Rattle.lft_ir.specs.declared.steps.row.Row.{Row}
use Rattle.lft_rows.specs.{Firsts.IsFirstOfRows, Presence.Traces.TraceParts}
use Rattle.lft_check.specs.declared.by_tag.fault.CutFault.{CutFault, TheVariants.{Broken, NoMemory}}

-- rows can't be sliced where one of them breaks one of the rules 1 to 5, or where a growth was refused
abbrev pub IsCutFault : PlanParts → List Row → CutFault → Type 0
IsCutFault plan t (Broken b) = IsFirstOfRows (stop plan t) plan t b
IsCutFault plan t NoMemory = Unit {0}

-- of the pairs of a reaction and a tag of a kind the least: by tag, then by reaction
abbrev pub LeastPair : (ℕ → Tag → Type 0) → Option (Tag × ℕ) → Type 0
LeastPair P o = MatchOption o ((g : Tag) (r : ℕ) → ¬ P r g) (λ x. P x.1 x.0 × ((h : Tag) (a : ℕ) → P a h → Before x.0 h ⊎ ((x.0 ≡ h) × (x.1 ≤ a))))

-- r is triggered at g, which is up to the stop, and no reaction has a run there
pub record IsVacant (cut : TraceParts) (r : ℕ) (g : Tag) : Type 0 where
  pub triggered : Triggered cut.plan cut.rows g r
  pub in_time : UpTo g (stop cut.plan cut.rows)
  pub no_run : (a : ℕ) → ¬ Ran cut.rows g a

-- the least tag up to the stop without any run at which a reaction is triggered, and the least such reaction
abbrev pub IsGap : TraceParts → Option (Tag × ℕ) → Type 0
IsGap cut o = LeastPair (IsVacant cut) o
