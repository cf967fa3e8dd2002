use Rattle.lft_facts.proofs.{Added.adds_both, Asking.{of_rows, own_of_row}}
use Rattle.lft_facts.proofs.row_reasons.add_of_order.Goals as goal

pub returns : goal.returns
returns c b plan p =
    let rows = c.args.rows.now in
    adds_both plan rows _ _ _ (adds_both plan rows _ _ _ (adds_both plan rows _ _ _
    (c.in_ok-add.ensures.adds b plan rows (of_rows c.ended_before.result plan rows c.ended_before.ensures.holds) (own_of_row c.ended_before.result b c.args.row p c.ended_before.ensures.own))
    (c.in_ok-add-2.ensures.adds b plan rows (of_rows c.own_open.result plan rows c.own_open.ensures.holds) (own_of_row c.own_open.result b c.args.row p c.own_open.ensures.own)))
    (c.in_ok-add-3.ensures.adds b plan rows (of_rows c.open_elsewhere.result plan rows c.open_elsewhere.ensures.holds) (own_of_row c.open_elsewhere.result b c.args.row p c.open_elsewhere.ensures.own)))
    (c.in_ok-add-4.ensures.adds b plan rows (of_rows c.later_start.result plan rows c.later_start.ensures.holds) (own_of_row c.later_start.result b c.args.row p c.later_start.ensures.own))
