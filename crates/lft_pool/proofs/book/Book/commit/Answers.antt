use Rattle.std.proofs.Common.{◌≡◌, ◌∙◌, ◌↔◌, IsTrue, IsErr, Result, None, sym, subst, rules}
use Rattle.std.proofs.lemmas.{Bool.false≢true, Result.IfErr-weaker}
use Rattle.lft_tag.specs.declared.NoMemory.{NoMemory}
use Rattle.lft_pool.specs.{declared.{bodies.{done.Done.Done, ticket.Ticket.Ticket}, stop.Stop.Stop}, Answers.{HasTicket, EndCause, CommitCause}}
use Rattle.lft_pool.specs.Reasons.StopHolds.{by_commit}
use Rattle.lft_pool.proofs.Refusals.{commit_cause, is_err_of}
use Rattle.lft_pool.proofs.book.Book.commit.Goals as goal

pub returns-then-not-has_ticket-clause-cause : goal.returns-then-not-has_ticket-clause-cause
returns-then-not-has_ticket-clause-cause g c = λ going.
    let k = c.into_parts-ticket.result.0 in
    let iff : IsTrue c.has_ticket.result ↔ HasTicket c.args.self.now k = search rules in
    let n : ¬ HasTicket c.args.self.now k = λ h. false≢true (sym c.if-not-has_ticket.true ∙ iff.1 h) in
    let m : ¬ HasTicket c.args.self.now c.args.answered.0 = subst (λ (p : Ticket × Result Done NoMemory). ¬ HasTicket c.args.self.now p.0) c.into_parts-ticket.ensures.same n in
    subst (λ (s : Stop). CommitCause c.args.self.now c.args.answered.0 c.args.answered.1 s) (sym c.stop.ensures.same) m

pub returns-in_default-answer-clause-cause : goal.returns-in_default-answer-clause-cause
returns-in_default-answer-clause-cause g c = λ going.
    let k = c.into_parts-ticket.result.0 in
    let iff : IsTrue c.has_ticket.result ↔ HasTicket c.args.self.now k = search rules in
    let has : HasTicket c.args.self.now k = iff.0 (search rules) in
    let e = is_err_of c.into_parts-ticket.result.1 c.in_default-answer.not-Ok in
    subst (λ (s : Stop). CommitCause c.args.self.now c.args.answered.0 c.args.answered.1 s) (sym c.stop-in_default-answer.ensures.same) (subst (λ (p : Ticket × Result Done NoMemory). HasTicket c.args.self.now p.0 × IsErr p.1) c.into_parts-ticket.ensures.same (has, e))

pub returns-clause-cause : goal.returns-clause-cause
returns-clause-cause g c =
    let k = c.into_parts-ticket.result.0 in
    let iff : IsTrue c.has_ticket.result ↔ HasTicket c.args.self.now k = search rules in
    let has : HasTicket c.args.self.now k = iff.0 (search rules) in
    IfErr-weaker c.end.result (λ s. EndCause c.args.self.now k c.in-Ok.done s) (λ s. c.args.self.now.reason ≡ None → CommitCause c.args.self.now c.args.answered.0 c.args.answered.1 s) (λ s h going. subst (λ (p : Ticket × Result Done NoMemory). CommitCause c.args.self.now p.0 p.1 s) c.into_parts-ticket.ensures.same (subst (λ (r : Result Done NoMemory). CommitCause c.args.self.now k r s) (sym c.in-Ok.is) (commit_cause c.args.self.now k c.in-Ok.done s has h))) (search rules)

pub stop-requires-clause-holds : goal.stop-requires-clause-holds
stop-requires-clause-holds g c =
    let k = c.into_parts-ticket.result.0 in
    let iff : IsTrue c.has_ticket.result ↔ HasTicket c.args.self.now k = search rules in
    by_commit k c.into_parts-ticket.result.1 c.into_parts-ticket.ensures.lawful (λ h. false≢true (sym c.if-not-has_ticket.true ∙ iff.1 h))

pub stop-requires-in_default-answer-clause-holds : goal.stop-requires-in_default-answer-clause-holds
stop-requires-in_default-answer-clause-holds g c =
    let k = c.into_parts-ticket.result.0 in
    let iff : IsTrue c.has_ticket.result ↔ HasTicket c.args.self.now k = search rules in
    let has : HasTicket c.args.self.now k = iff.0 (search rules) in
    by_commit k c.into_parts-ticket.result.1 c.into_parts-ticket.ensures.lawful (has, is_err_of c.into_parts-ticket.result.1 c.in_default-answer.not-Ok)
