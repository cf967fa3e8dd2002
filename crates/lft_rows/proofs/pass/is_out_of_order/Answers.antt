use Rattle.std.proofs.Common.{refl, ◌∙◌, sym}
use Rattle.lft_rows.proofs.{Steps.{order_inner, order_open}, PresenceLemmas.Lists.not_true}
use Rattle.lft_rows.proofs.pass.is_out_of_order.Goals as goal

pub returns-else-is_start : goal.returns-else-is_start
returns-else-is_start c = order_inner c.args.rows.now c.args.place c.args.row c.args.known.now.runs c.has_open.result c.requires.held (λ e. not_true (c.if-is_start.ensures.1 e)) c.has_open.ensures

pub returns-then-is_some : goal.returns-then-is_some
returns-then-is_some c = (λ e. order_open c.args.rows.now c.args.place c.args.row c.args.known.now.runs c.of.result c.requires.held c.of.ensures (c.if-is_start.ensures.0 refl) (sym c.is_some.ensures ∙ c.if-is_some.true), λ o. refl)
