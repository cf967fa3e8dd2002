use Rattle.std.proofs.Common.{◌≡◌, ◌++◌, ap, ◌∙◌, codes, map, refl, string_bytes}
use Rattle.std.proofs.lemmas.Result.{IfOk-weaker}
use Rattle.lft_ir.proofs.WordsLemmas.Steps.{also}
use Rattle.lft_text_diagnostics.{specs.{declared.diagnostic.Diagnostic.Diagnostic, inner.Diagnostics.printed}, proofs.Printing.says_of}
use Rattle.lft_program_diagnostics.specs.{Reasons.BeginsAt, Sentences.{said, words_in}, inner.Sentences.reason_sentence}
use Rattle.lft_program_diagnostics.proofs.tell.tell.Goals as goal

pub returns : goal.returns
returns c =
    let reason = c.args.reason.now in
    let sentence = reason_sentence reason in
    let old = string_bytes c.new-told.result.sentence in
    let told : Diagnostic = record { place = c.in_ok-told.field-0; sentence = c.push_str.new.self; lines = c.push_marked-2.new.out; help = c.push_way.new.out } in
    let is_said = c.in_ok-push_said.ensures ∙ ap (λ words. old ++ said words (map string_bytes c.deref.result.now)) c.words.ensures ∙ ap (λ names. old ++ said (words_in reason.sentence) (map string_bytes names)) c.deref.ensures.value in
    let is_whole = also _ _ _ sentence (codes ".") is_said c.in_ok-push_str.ensures.bytes ∙ ap (λ s. s ++ (sentence ++ codes ".")) c.new-told.ensures.sentence in
    IfOk-weaker c.print.result (λ words. string_bytes words ≡ printed told) (λ words. BeginsAt c.args.text.now c.args.files.now reason.at sentence (string_bytes words))
    (λ words is. (string_bytes told.place, c.in_ok-told.ensures, says_of told (string_bytes told.place) (string_bytes words) is refl (sentence ++ codes ".") is_whole))
    c.print.ensures
