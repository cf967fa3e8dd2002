use Rattle.std.proofs.Common.{◌<◌, length, sym, ap, ◌∙◌, subst}
use Rattle.std.proofs.lemmas.Option.{none-some}
use Rattle.lft_ir.specs.{declared.steps.row.Step.Step, Steps.Fits.StepFits}
use Rattle.lft_model.{specs.Presence.value_written, proofs.Steps.some_written}
use Rattle.lft_queue.{specs.inner.Coming.Unread.{UnreadParts, AreUnread}, proofs.ComingLemmas.Meeting.{unread_stays, unread_set, free_or_written, same_write}}
use Rattle.lft_queue.proofs.coming.unread.UnreadPorts.pass.Goals as goal

pub returns-in_default-clause-unread : goal.returns-in_default-clause-unread
returns-in_default-clause-unread c = λ t earlier are. unread_stays t c.args.row c.args.program.now c.args.self.now c.in_default.ensures are

pub returns-in_default-clause-free : goal.returns-in_default-clause-free
returns-in_default-clause-free c = λ t o v h clear earlier are step. absurd (none-some v (sym (c.in_default.ensures o) ∙ ap (λ (s : Step). value_written o s) step ∙ some_written o v))

pub returns-clause-unread : goal.returns-clause-unread
returns-clause-unread c = λ t earlier are.
    let program = c.args.program.now in
    let row = c.args.row in
    let o = c.in-Some.port in
    let within : o < length program.ports = subst (λ (s : Step). StepFits program s) c.in-Some.ensures c.requires.fits.step in
    unread_set t row program o c.in-Some.field-0-1 c.in-Some.ensures earlier c.self.inside.soonest.items c.self.inside.any c.self.inside.written.items (ap (λ (u : UnreadParts). u.any) c.self.view_is ∙ c.requires.any) within (subst (λ (u : UnreadParts). AreUnread program t u) (sym c.self.view_is) are)

pub returns-clause-free : goal.returns-clause-free
returns-clause-free c = λ t o v h clear earlier are step.
    let program = c.args.program.now in
    let row = c.args.row in
    let q = c.in-Some.port in
    let within : q < length program.ports = subst (λ (s : Step). StepFits program s) c.in-Some.ensures c.requires.fits.step in
    let unread : UnreadParts = c.args.self.now in
    same_write t row program h q c.in-Some.field-0-1 o v c.in-Some.ensures step (free_or_written t row program q c.in-Some.field-0-1 c.in-Some.ensures earlier unread.soonest unread.any unread.written c.requires.any within are h (λ s k. c.meets-met.ensures h s k clear))
