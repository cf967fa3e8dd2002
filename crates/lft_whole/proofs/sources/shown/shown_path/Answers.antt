use Rattle.std.proofs.Common.{◌≡◌, ◌<◌, ℕ, List, [], ◌∷◌, ◌++◌, map, ap, sym, ◌∙◌, arith, string_bytes}
use Rattle.std.specs.Char.{encode_utf8}
use Rattle.std.proofs.lemmas.{Bool.Decides.nat_tests, Iterator.{YieldsList-from_chars, Consumers.YieldsList-end}, List.{map-append, map-id}, Str.encode_ascii}
use Rattle.lft_whole.specs.Sources.Shown.{shown}
use Rattle.lft_whole.proofs.sources.shown.shown_path.Goals as goal

shown-ascii : (c : ℕ) → shown c < 128
shown-ascii c = grind (arith, nat_tests)

turn : (old new ys : List ℕ) (c r : ℕ) → new ≡ old ++ encode_utf8 r → r ≡ shown c → old ≡ map shown ys → new ≡ map shown (ys ++ c ∷ [])
turn old new ys c r n e o = n ∙ ap (λ z. old ++ encode_utf8 z) e ∙ ap (λ z. old ++ z) (encode_ascii (shown c) (shown-ascii c)) ∙ ap (λ z. z ++ shown c ∷ []) o ∙ sym (map-append shown ys (c ∷ []))

pub loop-letter-preserved : goal.loop-letter-preserved
loop-letter-preserved c = turn _ _ _ _ _ c.in_ok-push.ensures.bytes c.shown_letter.ensures c.loop-letter.invariant

pub returns : goal.returns
returns c =
    let all = YieldsList-end (YieldsList-from_chars c.args.path.now c.utf8.path cc) c.loop-letter.yielded _ c.loop-letter.yielded_by _ _ c.in-None.is c.next.ensures.steps in
    c.loop-letter.invariant ∙ ap (map shown) (sym (map-id c.loop-letter.yielded) ∙ all.0)
