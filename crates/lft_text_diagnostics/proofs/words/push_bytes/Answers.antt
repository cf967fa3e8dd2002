use Rattle.std.proofs.Common.{◌≡◌, ◌++◌, flat_map, ap, ◌∙◌, sym, string_bytes}
use Rattle.std.specs.{Char.encode_utf8, Str.{chars, Lossy.utf8_lossy}}
use Rattle.std.proofs.lemmas.{Iterator.{YieldsList-from_chars, Consumers.YieldsList-end}, List.map-id}
use Rattle.lft_text_diagnostics.specs.Quotes.{letter_shown}
use Rattle.lft_text_diagnostics.proofs.words.push_bytes.Goals as goal

pub returns : goal.returns
returns c =
    let all = YieldsList-end (YieldsList-from_chars c.deref.result.now c.deref.utf8 cc) c.loop-letter.yielded _ c.loop-letter.yielded_by _ _ c.in-None.is c.next.ensures.steps in
    let text : c.deref.result.now ≡ utf8_lossy c.args.bytes.now = c.deref.ensures ∙ c.in_ok-words.ensures.lossy in
    c.loop-letter.invariant ∙ ap (λ z. string_bytes c.args.out.now ++ flat_map (λ x. flat_map encode_utf8 (letter_shown x)) z) (sym (map-id c.loop-letter.yielded) ∙ all.0 ∙ ap chars text)
