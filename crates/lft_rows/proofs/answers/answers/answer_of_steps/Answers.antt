use Rattle.std.proofs.Common.{◌+◌, ◌∷◌, [], map, take, get_or, ap, ◌∙◌, arith}
use Rattle.std.proofs.lemmas.List.{map-append, take_more}
use Rattle.lft_ir.specs.declared.parts.Name.TheVariants.{Port}
use Rattle.lft_model.specs.Runs.{outcome_of}
use Rattle.lft_rows.{specs.inner.Answers.Answers.as_outcome, proofs.AnswersLemmas.Made.made_more}
use Rattle.lft_rows.proofs.answers.answers.answer_of_steps.Goals as goal

pub loop-place-preserved : goal.loop-place-preserved
loop-place-preserved c =
    let effects = c.args.effects.now in
    let i = c.loop-place.place in
    let outcome = c.in_ok-outcome.outcome in
    let so_far = c.loop-place.outcomes.items in
    ap (map as_outcome) c.in_ok-push.ensures.items ∙ map-append as_outcome so_far (outcome ∷ []) ∙ made_more (outcome_of c.args.steps.now) (take i effects) (take (i + 1) effects) (get_or effects i (Port 0)) (map as_outcome so_far) (as_outcome outcome) (take_more effects i (Port 0) (omega arith)) c.in_ok-outcome.ensures c.loop-place.invariant
