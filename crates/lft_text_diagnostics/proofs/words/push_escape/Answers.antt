use Rattle.std.proofs.Common.{◌≡◌, ◌++◌, drop, flat_map, length, take, ap, ◌∙◌, sym, string_bytes}
use Rattle.std.specs.Char.{encode_utf8, Escape.escape_unicode, Iter.{escape_rest, escape_steps}}
use Rattle.std.proofs.lemmas.{Iterator.Consumers.{YieldsList-end, YieldsList-from_shown}, List.map-id}
use Rattle.lft_text_diagnostics.proofs.words.push_escape.Goals as goal

pub returns : goal.returns
returns c =
    let signs = YieldsList-from_shown escape_steps (λ x. x) escape_rest (λ s t h. ap (λ n. length (take n (drop s.from s.chars))) h.1.0) (λ s x t h. h.1.0) c.into_iter-sign-iterator.result in
    let all = YieldsList-end signs c.loop-sign.yielded _ c.loop-sign.yielded_by _ _ c.in-None.is c.next.ensures.steps in
    let rest = c.escape_unicode-sign-items.ensures.rest in
    let whole : escape_rest c.into_iter-sign-iterator.result ≡ escape_unicode c.args.letter = cc in
    c.loop-sign.invariant ∙ ap (λ z. string_bytes c.args.out.now ++ flat_map encode_utf8 z) (sym (map-id c.loop-sign.yielded) ∙ all.0 ∙ whole)
