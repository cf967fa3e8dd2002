use Rattle.std.proofs.Common.{◌∙◌, ℕ, List, length, sym, subst}
use Rattle.std.proofs.{Math.Nat.le_refl, lemmas.List.take_all}
use Rattle.lft_ir.specs.{Steps.Fits.RowsFit, declared.steps.row.Row.Row}
use Rattle.lft_log.{specs.Explain.Cuts.IsCutBehind, proofs.ExplainLemmas.Cutting.cut_none}
use Rattle.lft_log.proofs.explain.explaining.cut_of.Goals as goal

pub returns-in-Some-2-clause-fit : goal.returns-in-Some-2-clause-fit
returns-in-Some-2-clause-fit c =
    let program = c.rows_of_log.new.plan.program in
    let fit = subst (λ (t : List Row). RowsFit program t) (sym c.as_slice.ensures.value) (rw c.in-Some.is at c.in_ok-first.ensures.fit) in
    rw c.in-Some-2.is at (c.in_ok-rows.ensures.fit program fit)

pub returns-in-None-2-clause-cut : goal.returns-in-None-2-clause-cut
returns-in-None-2-clause-cut c =
    let t = c.in-Some.first.rows.items in
    let told = rw c.in-Some.is at c.in_ok-first.ensures.told in
    let none = rw c.in-None.is at c.in_ok-rows.ensures.cut in
    let never = subst (λ (u : List Row). (n : ℕ) → ¬ IsCutBehind u c.args.breach n) c.as_slice.ensures.value none in
    (t, told.0, told.1, length t, told.2, cut_none c.args.at_end t c.args.breach c.if-at_end.true never, c.from_vec.ensures ∙ sym (take_all (length t) t (le_refl (length t))))
