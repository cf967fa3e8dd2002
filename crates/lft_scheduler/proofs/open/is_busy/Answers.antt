use Rattle.std.proofs.Common.{◌≡◌, ◌<◌, Some, length, slice_get, refl, sym, ap, ◌∙◌, arith, rules}
use Rattle.std.proofs.lemmas.{Bool.false≢true, Option.slice_get-get_or}
use Rattle.lft_model.proofs.Places.{slice_get_within}
use Rattle.lft_scheduler.proofs.RunsOpen.{busy_with, busy_none, before_one_more}
use Rattle.lft_scheduler.proofs.open.is_busy.Goals as goal

pub returns-then-runs-at : goal.returns-then-runs-at
returns-then-runs-at c =
    let here : slice_get c.args.runs.now c.loop-at.at ≡ Some c.index-runs-at.result = slice_get-get_or c.args.runs.now c.loop-at.at c.index-runs-at.result (omega arith) ∙ ap Some (sym c.index-runs-at.is) in
    λ plan t is. (λ e. busy_with plan t c.args.runs.now c.args.worker c.loop-at.at c.index-runs-at.result is here (search rules), λ b. refl)

pub loop-at-preserved : goal.loop-at-preserved
loop-at-preserved c =
    let here : slice_get c.args.runs.now c.loop-at.at ≡ Some c.index-runs-at.result = slice_get-get_or c.args.runs.now c.loop-at.at c.index-runs-at.result (omega arith) ∙ ap Some (sym c.index-runs-at.is) in
    before_one_more c.args.runs.now c.loop-at.at c.index-runs-at.result (λ o. o.worker ≡ c.args.worker → ⊥) here c.loop-at.invariant (search rules)

pub returns : goal.returns
returns c = λ plan t is. (λ e. absurd (false≢true e), λ b. absurd (busy_none plan t c.args.runs.now c.args.worker is (λ k o e q. c.loop-at.invariant k o (let l : k < length c.args.runs.now = slice_get_within c.args.runs.now k o e in let z = c.loop-at-test.false in omega arith) e q) b))
