use Rattle.std.proofs.Common.{◌∙◌}
use Rattle.lft_model.{specs.Runs.start_row, proofs.Places.slice_get_within}
use Rattle.lft_pair.proofs.Odd.{agrees_by}
use Rattle.lft_pair.proofs.difference.agrees.Goals as goal

pub read_steps-requires-clause-rules : goal.read_steps-requires-clause-rules
read_steps-requires-clause-rules c = (c.args.plan.now, c.requires.legal.rows)

pub row_at-requires : goal.row_at-requires
row_at-requires c = slice_get_within c.args.others.now c.in-Some.other (start_row c.in-Some.ensures.found.0 c.args.row.tag c.args.row.reaction) c.in-Some.ensures.found.1

pub read_steps-requires-in-Some-clause-rules : goal.read_steps-requires-in-Some-clause-rules
read_steps-requires-in-Some-clause-rules c = (c.args.plan.now, c.requires.others.rows)

pub returns-in_ok-same-in-Some-clause-same : goal.returns-in_ok-same-in-Some-clause-same
returns-in_ok-same-in-Some-clause-same c =
    let row = c.args.row in
    agrees_by c.args.plan.now c.args.rows.now c.args.others.now row.tag row.reaction c.in-Some.other c.row_at.result c.in-Some.ensures.found c.row_at.ensures c.keeps.ensures.sound c.requires.legal c.requires.others c.as_slice.result.now c.as_slice-in-Some.result.now c.in_ok-same-in-Some.same (c.as_slice.ensures.value ∙ c.in_ok-read_steps-in-Some.ensures) (c.as_slice-in-Some.ensures.value ∙ c.in_ok-read_steps-in-Some-2.ensures) c.in_ok-same-in-Some.ensures
