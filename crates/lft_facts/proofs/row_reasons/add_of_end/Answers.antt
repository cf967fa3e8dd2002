use Rattle.lft_facts.proofs.{Added.adds_both, Asking.{of_rows, own_of_row}}
use Rattle.lft_facts.proofs.row_reasons.add_of_end.Goals as goal

pub returns : goal.returns
returns c b plan p =
    let rows = c.args.rows.now in
    adds_both plan rows _ _ _ (adds_both plan rows _ _ _
    (c.in_ok-add.ensures.adds b plan rows (of_rows c.other_end.result plan rows c.other_end.ensures.holds) (own_of_row c.other_end.result b c.args.row p c.other_end.ensures.own))
    (c.in_ok-add-2.ensures.adds b plan rows (of_rows c.last_row.result plan rows c.last_row.ensures.holds) (own_of_row c.last_row.result b c.args.row p c.last_row.ensures.own)))
    (c.in_ok-add-3.ensures.adds b plan rows (of_rows c.later_tag.result plan rows c.later_tag.ensures.holds) (own_of_row c.later_tag.result b c.args.row p c.later_tag.ensures.own))
