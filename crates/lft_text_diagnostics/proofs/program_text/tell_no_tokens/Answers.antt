use Rattle.std.proofs.Common.{inr, string_bytes}
use Rattle.std.proofs.lemmas.Result.{IfOk-weaker}
use Rattle.lft_lists.proofs.Options.{found}
use Rattle.lft_text_diagnostics.specs.{Candidates.CanStandAt, Refusals.IsRefusal, Told.{SaysAt, TellsProgram}}
use Rattle.lft_text_diagnostics.proofs.Helping.{helps_by_way, puts_help, told_at}
use Rattle.lft_text_diagnostics.proofs.program_text.tell_no_tokens.Goals as goal

pub returns : goal.returns
returns c =
    let t = c.args.text.now in
    let r = c.in-Some.refusal in
    let is = found (IsRefusal t) c.at_byte.result r c.at_byte.ensures.refusal c.in-Some.is in
    let can = CanStandAt t r.why in
    let old = string_bytes c.new-help.result in
    let new = string_bytes c.push_way.new.out in
    let puts = puts_help can old new (helps_by_way can _ old new c.in_ok-push_way.ensures) in
    IfOk-weaker c.tell_at.result (λ words. SaysAt t r c.as_str.result.now (string_bytes words)) (λ words. TellsProgram t (string_bytes words))
    (λ words says. inr (r, is, told_at t r c.as_str.result.now (string_bytes words) says can (λ x h. h) old new c.new-help.ensures.bytes puts c.as_str.ensures.value))
    c.tell_at.ensures
