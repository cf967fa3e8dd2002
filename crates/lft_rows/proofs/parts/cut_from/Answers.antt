use Rattle.std.proofs.Common.{◌≡◌, ◌++◌, sym, subst, ap, ◌∙◌, List, drop}
use Rattle.std.proofs.lemmas.List.{take-append-drop}
use Rattle.lft_ir.specs.{declared.steps.row.Row.Row, Steps.Fits.RowsFit}
use Rattle.lft_rows.proofs.{Together.{first_fits, second_fits}, parts.cut_from.Goals.After-split_at}
use Rattle.lft_rows.proofs.parts.cut_from.Goals as goal

whole : (c : After-split_at) → c.args.rows.now ≡ c.split_at.result.0.now ++ c.split_at.result.1.now
whole c = sym (take-append-drop c.loop-place.place c.args.rows.now) ∙ ap (λ (u : List Row). u ++ drop c.loop-place.place c.args.rows.now) (sym c.split_at.ensures.front) ∙ ap (λ (v : List Row). c.split_at.result.0.now ++ v) (sym c.split_at.ensures.back)

pub returns-then-rises_at-clause-first : goal.returns-then-rises_at-clause-first
returns-then-rises_at-clause-first c program h = first_fits program c.split_at.result.0.now c.split_at.result.1.now (subst (λ (t : List Row). RowsFit program t) (whole c) h)

pub returns-then-rises_at-clause-second : goal.returns-then-rises_at-clause-second
returns-then-rises_at-clause-second c program h = second_fits program c.split_at.result.0.now c.split_at.result.1.now (subst (λ (t : List Row). RowsFit program t) (whole c) h)
