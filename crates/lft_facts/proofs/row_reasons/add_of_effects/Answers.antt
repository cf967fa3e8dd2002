use Rattle.std.proofs.Common.{sym}
use Rattle.lft_facts.proofs.{Added.adds_both, Asking.{of_program, own_always, has_effects}}
use Rattle.lft_facts.proofs.row_reasons.add_of_effects.Goals as goal

pub returns : goal.returns
returns c b =
    let plan = c.args.plan.now in
    let rows = c.args.rows.now in
    adds_both plan rows _ _ _ (adds_both plan rows _ _ _
    (c.in_ok-add.ensures.adds b plan rows (has_effects plan.program c.row_at-own.result.reaction (c.requires.fit.each c.args.row c.row_at-own.result c.row_at-own.ensures).reaction) tt)
    (c.in_ok-add-2.ensures.adds b plan rows (of_program c.named_kind.result c.program.result.now plan rows (sym c.program.ensures.value) c.named_kind.ensures.holds) (own_always c.named_kind.result b c.named_kind.ensures.own)))
    (c.in_ok-add-3.ensures.adds b plan rows (of_program c.named_feed.result c.program-2.result.now plan rows (sym c.program-2.ensures.value) c.named_feed.ensures.holds) (own_always c.named_feed.result b c.named_feed.ensures.own))
