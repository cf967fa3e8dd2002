-- Inside: the comparison of two legal traces of one plan.
use Rattle.std.specs.Prelude.{◌≡◌, ℕ, List, Option, MatchOption}
use Rattle.lft_tag.specs.declared.Tag.{Tag}
use Rattle.lft_ir.specs.declared.steps.row.Row.{Row}
use Rattle.lft_model.specs.{Plans.PlanParts, Runs.{Ran, answer_at}}
use Rattle.lft_pair.specs.Pairs.{ComesFirst}

-- the run of r at g is in both traces, with equal answers
abbrev pub Agrees : PlanParts → List Row → List Row → Tag → ℕ → Type 0
Agrees plan t s g r = Ran s g r × (answer_at plan t g r ≡ answer_at plan s g r)

-- of the runs of the first trace that aren't in the second, or not with an equal answer, the first, if there is one
pub record IsFirstOdd (plan : PlanParts) (levels : List ℕ) (t s : List Row) (x : Tag × ℕ) : Type 0 where
  pub ran : Ran t x.0 x.1
  pub odd : ¬ Agrees plan t s x.0 x.1
  pub before : (h : Tag) (a : ℕ) → Ran t h a → ComesFirst levels h a x.0 x.1 → Agrees plan t s h a

-- that run, or that there is none
abbrev pub FirstOdd : PlanParts → List ℕ → List Row → List Row → Option (Tag × ℕ) → Type 0
FirstOdd plan levels t s o = MatchOption o ((h : Tag) (a : ℕ) → Ran t h a → Agrees plan t s h a) (IsFirstOdd plan levels t s)
