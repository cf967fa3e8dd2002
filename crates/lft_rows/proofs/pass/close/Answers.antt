use Rattle.std.proofs.Common.{refl}
use Rattle.lft_rows.proofs.{Steps.{close_then, close_else}, PresenceLemmas.Lists.not_true}
use Rattle.lft_rows.proofs.pass.close.Goals.{else-is_end-via-then-is_end+else-has_open, else-is_end-via-else-is_end}
use Rattle.lft_rows.proofs.pass.close.Goals as goal

pub returns-then-has_open : goal.returns-then-has_open
returns-then-has_open c = λ p le h. close_then c.args.rows.now p c.args.place c.row_at-row.result c.row_at-row.ensures c.args.runs.now c.end.new.self le (c.if-is_end.ensures.0 refl) (c.if-has_open.ensures.0 refl) h c.end.ensures

pub returns-else-is_end : goal.returns-else-is_end
returns-else-is_end c = λ p le h. elim c.else-is_end.branch [
  | else-is_end-via-then-is_end+else-has_open w ↦ close_else c.args.rows.now p c.args.place c.row_at-row.result c.row_at-row.ensures c.args.runs.now (λ e has. not_true (w.if-has_open.ensures.1 has)) h
  | else-is_end-via-else-is_end w ↦ close_else c.args.rows.now p c.args.place c.row_at-row.result c.row_at-row.ensures c.args.runs.now (λ e has. not_true (w.if-is_end.ensures.1 e)) h
]
