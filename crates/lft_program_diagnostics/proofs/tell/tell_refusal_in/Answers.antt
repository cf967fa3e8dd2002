use Rattle.std.proofs.Common.{ap, map, string_bytes}
use Rattle.std.proofs.lemmas.Result.{IfOk-weaker}
use Rattle.lft_resolve.specs.Causes.{number_of}
use Rattle.lft_program.specs.inner.Refusals.{cause_of}
use Rattle.lft_program_diagnostics.specs.{Reasons.{BeginsAt, IsToldIn}, inner.Sentences.reason_sentence}
use Rattle.lft_program_diagnostics.proofs.tell.tell_refusal_in.Goals as goal

pub returns-clause-told : goal.returns-clause-told
returns-clause-told c =
    let text = c.args.text.now in
    let files = c.args.files.now in
    let reason = c.in_ok-reason.reason in
    IfOk-weaker c.tell.result (λ words. BeginsAt text files reason.at (reason_sentence reason) (string_bytes words)) (λ words. IsToldIn text c.args.tokens.now files c.args.ast.now.items.items (cause_of c.args.refusal.now) (string_bytes words))
    (λ words begins. record {
      spot = reason.at;
      shown = c.in_ok-reason.ensures.shown;
      sentence = reason.sentence;
      tells = ap number_of c.in_ok-reason.ensures.fault;
      names = map string_bytes reason.names.items;
      begins = begins;
    })
    c.tell.ensures
