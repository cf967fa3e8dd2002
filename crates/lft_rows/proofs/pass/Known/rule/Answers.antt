use Rattle.std.proofs.Common.{inl, inr}
use Rattle.lft_tag.{specs.Tags.UpTo, proofs.Order.order_cases}
use Rattle.lft_rows.proofs.{Rereads.rises_to, PresenceLemmas.Lists.not_true}
use Rattle.lft_rows.proofs.pass.Known.rule.Goals as goal

pub is_undeclared-requires-clause-rising : goal.is_undeclared-requires-clause-rising
is_undeclared-requires-clause-rising c =
    let up : UpTo c.args.self.now.last c.row_at-row.result.tag = elim (order_cases c.row_at-row.result.tag c.args.self.now.last) [
      | inl b ↦ not_true (c.if-is_before.ensures.1 b)
      | inr u ↦ u
    ] in
    rises_to c.args.stop c.args.plan.now c.args.rows.now c.args.place c.args.self.now.last c.row_at-row.result.tag c.requires.kept c.requires.known.latest up
