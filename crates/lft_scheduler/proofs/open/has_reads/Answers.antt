use Rattle.std.proofs.Common.{◌≡◌, ◌<◌, Some, false, length, slice_get, sym, ap, ◌∙◌, arith}
use Rattle.std.proofs.lemmas.{Bool.false≢true, Option.slice_get-get_or}
use Rattle.lft_model.proofs.Places.{slice_get_within}
use Rattle.lft_scheduler.{specs.inner.OpenRuns.is_run, proofs.RunsOpen.{reads_none, before_one_more, reads_iff}}
use Rattle.lft_scheduler.proofs.open.has_reads.Goals as goal

pub returns-then-is_of : goal.returns-then-is_of
returns-then-is_of c =
    let here : slice_get c.args.runs.now c.loop-at.at ≡ Some c.index-runs-at.result = slice_get-get_or c.args.runs.now c.loop-at.at c.index-runs-at.result (omega arith) ∙ ap Some (sym c.index-runs-at.is) in
    λ plan t is. reads_iff plan t c.args.runs.now c.args.worker c.args.tag c.args.reaction c.loop-at.at c.index-runs-at.result c.args.reads.now c.same_reads.result here (sym c.is_of.ensures ∙ c.if-is_of.true) (λ x. sym c.as_slice.ensures ∙ c.same_reads.ensures.0 x, λ e. c.same_reads.ensures.1 (c.as_slice.ensures ∙ e)) is

pub loop-at-preserved : goal.loop-at-preserved
loop-at-preserved c =
    let here : slice_get c.args.runs.now c.loop-at.at ≡ Some c.index-runs-at.result = slice_get-get_or c.args.runs.now c.loop-at.at c.index-runs-at.result (omega arith) ∙ ap Some (sym c.index-runs-at.is) in
    before_one_more c.args.runs.now c.loop-at.at c.index-runs-at.result (λ o. is_run c.args.worker c.args.tag c.args.reaction o ≡ false) here c.loop-at.invariant (sym c.is_of.ensures ∙ c.if-is_of.false)

pub returns : goal.returns
returns c = λ plan t is. (λ e. absurd (false≢true e), λ b. absurd (reads_none plan t c.args.runs.now c.args.worker c.args.tag c.args.reaction c.args.reads.now is (λ k o e. c.loop-at.invariant k o (let l : k < length c.args.runs.now = slice_get_within c.args.runs.now k o e in let z = c.loop-at-test.false in omega arith) e) b))
