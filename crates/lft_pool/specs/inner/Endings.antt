-- Inside: why a recording isn't finished.
use Rattle.std.specs.Prelude.{◌≡◌, ◌⊎◌, ℕ, ◌<◌, ◌≤◌, Bool, true, false, Result, Err, IfOk, is_ok}
use Rattle.lft_pool.specs.{declared.{book.Begin.Begin, stop.Stop.{Stop, TheVariants.{TooManyRuns, NoWorker, PlanChanged}}}, Begun.MatchBegin}

-- the last answer of a book is that something is left to run
abbrev pub HasLeftToRun : {L C : Type 0} → Result (Begin L C) Stop → Type 0
HasLeftToRun last = IfOk last (λ b. MatchBegin b (λ _ _. Unit {0}) (Unit {0}) ⊥) × (is_ok last ≡ true)

-- the plan is another one, or something is left and the book has no reason or counts to another number of runs; or too many runs have started, or a thread wasn't started, or it is the book's own reason
abbrev pub ReasonIs : {L C : Type 0} → Bool → ℕ → ℕ → Result (Begin L C) Stop → Stop → Type 0
ReasonIs same started max_runs last s = ((s ≡ PlanChanged) × ((same ≡ false) ⊎ (HasLeftToRun last ⊎ (last ≡ Err TooManyRuns)))) ⊎ (((s ≡ TooManyRuns) × (max_runs < started)) ⊎ ((s ≡ NoWorker) ⊎ ((last ≡ Err s) × (s ≡ TooManyRuns → ((max_runs ≤ started) ⊎ (1000000 ≤ started))))))
