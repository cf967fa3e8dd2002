-- What explains a breach of the first rows of a trace.
use Rattle.std.specs.Prelude.{◌≡◌, ◌⊎◌, ℕ, ◌+◌, Bool, true, false, List, [], ◌++◌, length, codes}
use Rattle.lft_ir.specs.declared.steps.row.Row.{Row}
use Rattle.lft_model.specs.{declared.breach.Breach.Breach, Plans.PlanParts}
use Rattle.lft_load.specs.Words.{field}
use Rattle.lft_report.specs.Explained.{Explains}
use Rattle.lft_races.specs.{declared.hints.hint.Hint.Hint, Hints.{Hints.IsHint, Words.hint_words}}
use Rattle.lft_races.specs.declared.hints.hint.Hint.TheVariants as hint

-- the hint takes the last row for the end of the execution
abbrev pub is_of_end : Hint → Bool
is_of_end hint.TraceEnds = true
is_of_end hint.NoRows = true
is_of_end hint.NoEnds = true
is_of_end hint.RunsAtStop = true
is_of_end h = false

-- the line of a hint that holds of the breach, and isn't of the end
abbrev pub IsGuessSoFar : PlanParts → List Row → Breach → List ℕ → Type 0
IsGuessSoFar plan t b guess = (h : Hint) × IsHint plan t b h × (is_of_end h ≡ false) × (guess ≡ hint_words h)

-- no hint holds of the breach, or one of the end
abbrev pub HasNoGuess : PlanParts → List Row → Breach → Type 0
HasNoGuess plan t b = ((h : Hint) → IsHint plan t b h → ⊥) ⊎ (h : Hint) × IsHint plan t b h × (is_of_end h ≡ true)

-- such a line, or nothing where there is no guess
abbrev pub GuessesSoFar : PlanParts → List Row → Breach → List ℕ → Type 0
GuessesSoFar plan t b guess = IsGuessSoFar plan t b guess ⊎ (guess ≡ []) × HasNoGuess plan t b

-- up to which line the trace is told of, between empty lines: that of the last row
abbrev pub trace_heading_words : List Row → List ℕ
trace_heading_words t = field (codes "\nOf the trace up to line ") (length t + 1) ++ codes ":\n\n"

-- a heading, the facts behind the breach of these rows, and a guess where rows may stand behind them
pub record AreReasonsSoFar (all : Bool) (plan : PlanParts) (t : List Row) (b : Breach) (text : List ℕ) : Type 0 where
  pub why : List ℕ
  pub guess : List ℕ
  pub explains : Explains all plan t b why
  pub is_guess : GuessesSoFar plan t b guess
  pub is_text : text ≡ trace_heading_words t ++ why ++ guess
