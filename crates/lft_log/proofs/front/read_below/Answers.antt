use Rattle.std.proofs.Common.{◌≡◌, ◌∙◌, ◌++◌, ℕ, List, IfOk, refl, ap, subst}
use Rattle.lft_ir.specs.{declared.steps.row.Row.Row, Steps.Fits.RowsFit}
use Rattle.lft_trace.specs.inner.LogTables.{ReadsLines}
use Rattle.lft_tables.specs.Records.{records_of}
use Rattle.lft_log.proofs.Below.{below_empty, below_plain}
use Rattle.lft_log.proofs.front.read_below.Goals as goal

pub returns-then-not-may_begin_with_mark-clause-read : goal.returns-then-not-may_begin_with_mark-clause-read
returns-then-not-may_begin_with_mark-clause-read c = subst (λ (r : List (List (List ℕ))). IfOk c.read_log.result (λ read. (t : List Row) × (c.read_log.new.rows.items ≡ c.args.rows.now.items ++ t) × RowsFit c.args.program.now t × ReadsLines c.args.program.now r t read)) (below_plain c.args.lines.now (c.if-not-may_begin_with_mark.ensures refl)) c.read_log.ensures.read

pub returns-clause-read : goal.returns-clause-read
returns-clause-read c =
    let text = c.as_slice.ensures.value ∙ c.in-Ok-extend_from_slice.ensures.items ∙ ap (λ (x : List ℕ). x ++ c.args.lines.now) c.in-Ok.ensures.items in
    subst (λ (r : List (List (List ℕ))). IfOk c.read_log-2.result (λ read. (t : List Row) × (c.read_log-2.new.rows.items ≡ c.args.rows.now.items ++ t) × RowsFit c.args.program.now t × ReadsLines c.args.program.now r t read)) (ap records_of text ∙ below_empty c.args.lines.now) c.read_log-2.ensures.read
