use Rattle.std.proofs.Common.{◌≡◌, ◌++◌, ap, ◌∙◌, slice_range, string_bytes}
use Rattle.std.proofs.lemmas.Result.{IfOk-weaker}
use Rattle.lft_text_diagnostics.{specs.{Diagnostics.told_words, Quotes.{marked_line, program_place_words}, Told.{SaysAt, why_words}}, proofs.Printing.told_same}
use Rattle.lft_text_diagnostics.proofs.program_text.tell_at.Goals as goal

pub returns : goal.returns
returns c =
    let t = c.args.text.now in
    let r = c.args.refusal in
    let at = c.place_of-place.result in
    let new = c.new-told.ensures in
    let place = program_place_words at in
    let sentence = why_words r.why (slice_range t r.start r.end) in
    let lines = marked_line t at r.start r.end in
    let help = c.args.help.now in
    IfOk-weaker c.print.result (λ words. string_bytes words ≡ told_words (string_bytes c.push_place.new.out) (string_bytes c.push_sentence.new.out) (string_bytes c.push_line.new.out) (string_bytes c.push_str.new.self)) (λ words. SaysAt t r help (string_bytes words))
    (λ words is. record {
      place = at;
      is_place = c.place_of-place.ensures;
      whole = is ∙ told_same place sentence lines help
          (c.in_ok-push_place.ensures ∙ ap (λ s. s ++ place) new.place)
          (c.in_ok-push_sentence.ensures ∙ ap (λ s. s ++ sentence) new.sentence)
          (c.in_ok-push_line.ensures ∙ ap (λ s. s ++ lines) new.lines)
          (c.in_ok-push_str.ensures.bytes ∙ ap (λ s. s ++ help) new.help);
    })
    c.print.ensures
