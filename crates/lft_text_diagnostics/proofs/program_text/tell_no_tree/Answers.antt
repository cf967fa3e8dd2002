use Rattle.std.proofs.Common.{◌-◌, inr, string_bytes}
use Rattle.std.proofs.lemmas.Result.{IfOk-weaker}
use Rattle.lft_text_diagnostics.{specs.{Candidates.CanStand, Told.{SaysAt, TellsProgram}}, proofs.Helping.told_at}
use Rattle.lft_text_diagnostics.proofs.program_text.tell_no_tree.Goals as goal

pub returns : goal.returns
returns c =
    let t = c.args.text.now in
    let r = c.at_token.result in
    IfOk-weaker c.tell_at.result (λ words. SaysAt t r c.as_str.result.now (string_bytes words)) (λ words. TellsProgram t (string_bytes words))
    (λ words says. inr (r, c.at_token.ensures.refusal, told_at t r c.as_str.result.now (string_bytes words) says (CanStand t (c.args.number - 1)) c.at_token.ensures.behind (string_bytes c.new-help.result) (string_bytes c.push_help.new.out) c.new-help.ensures.bytes c.in_ok-push_help.ensures c.as_str.ensures.value))
    c.tell_at.ensures
