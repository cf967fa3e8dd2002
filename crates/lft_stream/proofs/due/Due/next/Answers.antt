use Rattle.std.proofs.Common.{◌≡◌, ◌+◌, ◌∙◌, ap, subst, arith}
use Rattle.lft_model.specs.Presence.{stop}
use Rattle.lft_stream.{specs.{declared.due.Due.Due, inner.Dues.{IsDue, IsDueAt}}, proofs.Owing.due_next}
use Rattle.lft_stream.proofs.due.Due.next.Goals as goal

pub returns-in_ok-time-in-AtTag : goal.returns-in_ok-time-in-AtTag
returns-in_ok-time-in-AtTag c = λ plan t g r x is at ran.
    let next : c.at_time.result ≡ record { time = c.in-AtTag.tag.time + c.in-AtTag.period; micro = 0 } = c.at_time.ensures ∙ ap (λ time. record { time = time; micro = 0 }) c.in_ok-time-in-AtTag.ensures.1 in
    due_next plan t r x g c.in-AtTag.tag c.at_time.result c.in-AtTag.period (λ z. let l = c.if-period-gt0.true in omega (arith, l, z)) next (subst (λ (d : Due). IsDue plan t r x d) c.in-AtTag.is is) (subst (λ (d : Due). IsDueAt (stop plan t) g d) c.in-AtTag.is at) ran
