use Rattle.std.proofs.Common.{None, append-nil, filter_map, take, sym, ◌∙◌, arith}
use Rattle.lft_lists.proofs.Picked.{kept_more}
use Rattle.lft_pair.{specs.Runs.request_of_step, proofs.Outcomes.{found_first, found_none}}
use Rattle.lft_pair.proofs.contrasting.answers.first_request.Goals as goal

pub loop-place-preserved : goal.loop-place-preserved
loop-place-preserved c = kept_more request_of_step c.args.steps.now c.loop-place.place c.item_at.result None c.item_at.ensures (sym c.in_default.is ∙ c.request_of.ensures) ∙ append-nil (filter_map request_of_step (take c.loop-place.place c.args.steps.now)) ∙ c.loop-place.invariant

pub returns-in-Some : goal.returns-in-Some
returns-in-Some c = sym (found_first request_of_step c.args.steps.now c.loop-place.place c.item_at.result c.in-Some.row c.item_at.ensures (sym c.request_of.ensures ∙ c.in-Some.is) c.loop-place.invariant)

pub returns : goal.returns
returns c = sym (found_none request_of_step c.args.steps.now c.loop-place.place (let n = c.loop-place-test.false in omega arith) c.loop-place.invariant)
