use Rattle.std.proofs.Common.{◌≡◌, ◌++◌, ap, ◌∙◌, codes, refl, string_bytes}
use Rattle.std.proofs.lemmas.Result.{IfOk-weaker}
use Rattle.lft_ir.proofs.WordsLemmas.Steps.{also}
use Rattle.lft_text_diagnostics.{specs.{declared.diagnostic.Diagnostic.Diagnostic, inner.Diagnostics.printed}, proofs.Printing.says_of}
use Rattle.lft_whole_driver.specs.Told.{TellsAt}
use Rattle.lft_whole_driver.proofs.told.told_of.Goals as goal

pub returns : goal.returns
returns c =
    let place = c.args.place.now in
    let quoted = c.in_ok-told.told in
    let told : Diagnostic = record { place = c.push_str-2.new.self; sentence = c.in_ok-sentence.sentence; lines = quoted.lines; help = quoted.help } in
    let is_place = also _ _ _ place (codes ": ") c.in_ok-push_str.ensures.bytes c.in_ok-push_str-2.ensures.bytes ∙ ap (λ s. s ++ (place ++ codes ": ")) c.new-at.ensures.bytes in
    IfOk-weaker c.print.result (λ words. string_bytes words ≡ printed told) (λ words. TellsAt place c.args.first.now c.args.refusal.why (string_bytes words))
    (λ words is. (string_bytes told.sentence, c.in_ok-sentence.ensures, says_of told (place ++ codes ": ") (string_bytes words) is is_place (string_bytes told.sentence) refl))
    c.print.ensures
