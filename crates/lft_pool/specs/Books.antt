-- What contracts see of a book, and what holds of every book.
use Rattle.std.specs.Prelude.{◌≡◌, ℕ, ℤ, List, Option, slice_index}
use Rattle.lft_tag.specs.declared.Tag.{Tag}
use Rattle.lft_ir.specs.{declared.{parts.Value.Value, steps.row.Row.Row}, Steps.Fits.RowsFit}
use Rattle.lft_model.specs.{Plans.PlanParts, Runs.by_ends, Recorded.{SoFar, Follows, BodyLaw, OnlyEndedAnswer, instance_of, word_after}}
use Rattle.lft_pool.specs.declared.{bodies.done.Done.Done, stop.Stop.Stop}
use Rattle.lft_scheduler.specs.Starts.{MayStart}

-- plan, rows, words before and after each ended run, how many bodies each reaction has left, greatest number of runs, why it stopped
pub record BookParts : Type 0 where
  pub plan : PlanParts
  pub rows : List Row
  pub states : List (ℤ × ℤ)
  pub left : List ℕ
  pub max_runs : ℕ
  pub reason : Option Stop

-- a law of answers, as one of words and steps
abbrev pub law_of : (ℕ → Tag → ℤ → List (Option Value) → Done → Type 0) → BodyLaw
law_of holds r g before reads after steps = holds r g before reads (record { state = after; steps = steps })

-- the word of a reaction's instance after the ended runs
abbrev pub word_now : PlanParts → List Row → List (ℤ × ℤ) → ℕ → ℤ
word_now plan t states r = word_after plan.program (instance_of plan.program r) (by_ends plan t) states

-- r may start at some tag, and has no body left
abbrev pub LacksBody : PlanParts → List Row → List ℕ → ℕ → Type 0
LacksBody plan t left r = ((g : Tag) × MayStart plan t g r) × (slice_index left r ≡ 0)

-- what holds of the rows of every book
pub record IsRecording (law : ℕ → Tag → ℤ → List (Option Value) → Done → Type 0) (plan : PlanParts) (t : List Row) (states : List (ℤ × ℤ)) : Type 0 where
  pub so_far : SoFar plan t
  pub follows : Follows plan (law_of law) t states
  pub fit : RowsFit plan.program t
  pub quiet : OnlyEndedAnswer t
