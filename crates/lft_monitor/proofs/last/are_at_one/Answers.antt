use Rattle.std.proofs.Common.{length, sym, ◌∙◌}
use Rattle.std.proofs.lemmas.Bool.{eqb-true}
use Rattle.lft_monitor.proofs.Following.{none_at_one, one_tag}
use Rattle.lft_monitor.proofs.last.are_at_one.Goals as goal

pub returns-then-is_empty : goal.returns-then-is_empty
returns-then-is_empty c = λ yes. none_at_one c.args.rows.now (eqb-true (length c.args.rows.now) 0 (sym c.is_empty.ensures ∙ c.if-is_empty.true))

pub returns : goal.returns
returns c = λ yes. (c.row_at-2.result.tag, one_tag c.args.rows.now c.row_at-2.result c.row_at.result c.requires c.row_at-2.ensures c.row_at.ensures (c.is_same.ensures.0 yes))
