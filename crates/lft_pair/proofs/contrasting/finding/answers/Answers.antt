use Rattle.std.proofs.Common.{ap, ◌∙◌, is_some, ◌≡◌}
use Rattle.lft_pair.specs.{Runs.first_request, Enough.TellsStop}
use Rattle.lft_pair.proofs.{Differing.{of_some, of_none}, Giving.{own_effects, holds_with, holds_without, tells_with, tells_without}}
use Rattle.lft_pair.proofs.contrasting.finding.answers.Goals.{in-Some+in_ok-push, in_default}
use Rattle.lft_pair.proofs.contrasting.finding.answers.Goals as goal

pub returns-clause-holds : goal.returns-clause-holds
returns-clause-holds c =
    let en = own_effects c.args.plan.now c.args.reaction c.program.result.now c.program.ensures.value c.reaction.result.now c.reaction.ensures.value c.as_slice-effects.result.now c.as_slice-effects.ensures in
    let em = c.as_slice-mine.ensures.value ∙ c.in_ok-mine.ensures in
    let et = c.as_slice-theirs.ensures.value ∙ c.in_ok-theirs.ensures in
    let mine = c.as_slice-mine.result.now in
    let theirs = c.as_slice-theirs.result.now in
    let told = c.in_ok-told.told.items in
    let new = c.match-stop_contrast.told.items in
    elim c.match-stop_contrast.branch [
      | in-Some+in_ok-push w ↦ holds_with c.args.plan.now c.args.rows.now c.args.others.now c.args.tag c.args.reaction c.as_slice-effects.result.now mine theirs en em et told c.in_ok-told.ensures.right c.in_ok-told.ensures.all w.in-Some.stop new (of_some (is_some (first_request mine) ≡ is_some (first_request theirs)) (TellsStop mine theirs) c.stop_contrast.result w.in-Some.stop w.in-Some.is c.stop_contrast.ensures) (ap (λ v. v.items) w.told-is ∙ w.in_ok-push.ensures.items)
      | in_default w ↦ holds_without c.args.plan.now c.args.rows.now c.args.others.now c.args.tag c.args.reaction c.as_slice-effects.result.now mine theirs en em et told c.in_ok-told.ensures.right c.in_ok-told.ensures.all new (ap (λ v. v.items) w.told-is)
    ]

pub returns-clause-all : goal.returns-clause-all
returns-clause-all c =
    let en = own_effects c.args.plan.now c.args.reaction c.program.result.now c.program.ensures.value c.reaction.result.now c.reaction.ensures.value c.as_slice-effects.result.now c.as_slice-effects.ensures in
    let em = c.as_slice-mine.ensures.value ∙ c.in_ok-mine.ensures in
    let et = c.as_slice-theirs.ensures.value ∙ c.in_ok-theirs.ensures in
    let mine = c.as_slice-mine.result.now in
    let theirs = c.as_slice-theirs.result.now in
    let told = c.in_ok-told.told.items in
    let new = c.match-stop_contrast.told.items in
    elim c.match-stop_contrast.branch [
      | in-Some+in_ok-push w ↦ tells_with c.args.plan.now c.args.rows.now c.args.others.now c.args.tag c.args.reaction c.as_slice-effects.result.now mine theirs en em et told c.in_ok-told.ensures.right c.in_ok-told.ensures.all w.in-Some.stop new (of_some (is_some (first_request mine) ≡ is_some (first_request theirs)) (TellsStop mine theirs) c.stop_contrast.result w.in-Some.stop w.in-Some.is c.stop_contrast.ensures) (ap (λ v. v.items) w.told-is ∙ w.in_ok-push.ensures.items)
      | in_default w ↦ tells_without c.args.plan.now c.args.rows.now c.args.others.now c.args.tag c.args.reaction c.as_slice-effects.result.now mine theirs en em et told c.in_ok-told.ensures.right c.in_ok-told.ensures.all new (ap (λ v. v.items) w.told-is) (of_none (is_some (first_request mine) ≡ is_some (first_request theirs)) (TellsStop mine theirs) c.stop_contrast.result w.in_default.is c.stop_contrast.ensures)
    ]
