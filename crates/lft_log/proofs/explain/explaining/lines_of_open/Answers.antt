use Rattle.std.proofs.Common.{◌∙◌, List, ap}
use Rattle.lft_ir.specs.Parts.{Parts}
use Rattle.lft_monitor.specs.declared.open.StillOpen.{StillOpen}
use Rattle.lft_log.specs.Explain.Listed.{runs_words}
use Rattle.lft_log.proofs.explain.explaining.lines_of_open.Goals as goal

pub returns : goal.returns
returns c =
    let words = ap (λ (p : Parts). runs_words p c.as_slice.result.now) c.program.ensures.value ∙ ap (λ (xs : List StillOpen). runs_words c.args.plan.now.program xs) c.as_slice.ensures.value in
    (c.in_ok-runs.runs, c.in_ok-runs.was, c.in_ok-text.ensures ∙ words)
