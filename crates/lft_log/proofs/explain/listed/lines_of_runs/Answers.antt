use Rattle.std.specs.Prelude.{codes}
use Rattle.std.proofs.Common.{◌++◌, ◌∙◌, ap, sym, append_assoc, flat_map, take}
use Rattle.lft_log.{specs.Explain.Listed.open_run_words, proofs.ExplainLemmas.Listing.lines_more}
use Rattle.lft_log.proofs.explain.listed.lines_of_runs.Goals as goal

pub loop-place-preserved : goal.loop-place-preserved
loop-place-preserved c =
    let runs = c.args.runs.now in
    let words = open_run_words c.args.program.now in
    let before = flat_map words (take c.loop-place.place runs) in
    let run = c.item_at.result in
    c.in_ok-push_run.ensures
    ∙ ap (λ s. s ++ words run) c.loop-place.invariant
    ∙ append_assoc (codes "\n") before (words run)
    ∙ ap (λ s. codes "\n" ++ s) (sym (lines_more words runs c.loop-place.place run c.item_at.ensures))
