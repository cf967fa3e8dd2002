-- Parts of a text.
use Rattle.std.proofs.Common.{◌≡◌, ℕ, ◌+◌, ◌-◌, ◌<◌, List, ◌++◌, length, take, drop, refl, sym, ap, ◌∙◌, subst, arith}
use native.Mathlib.Decide.{dec_lt}
use Rattle.std.proofs.lemmas.List.{take-append-drop, drop-drop, length-take-le, take_at, drop_at}
use Rattle.lft_driver.specs.Bundles.{IsMarkerLine, IsCut}

-- what stands round a marker
pub parts_at : (text marker : List ℕ) (n : ℕ) → take (length marker) (drop n text) ≡ marker → text ≡ take n text ++ (marker ++ drop (n + length marker) text)
parts_at text marker n e =
    sym (take-append-drop n text) ∙ ap (λ x. take n text ++ x) (sym (take-append-drop (length marker) (drop n text)) ∙ ap (λ x. x ++ drop (length marker) (drop n text)) e ∙ ap (λ x. marker ++ x) (drop-drop (length marker) n text))

-- the parts round the first marker line are one pair
pub cut_once : (text marker before after other rest : List ℕ) → IsCut text marker before after → IsCut text marker other rest → (before ≡ other) × (after ≡ rest)
cut_once text marker before after other rest p q = (front, back)
  where
    lengths : length before ≡ length other
    lengths = go (dec_lt (length before) (length other)) (dec_lt (length other) (length before))
      where
        go : Dec (length before < length other) → Dec (length other < length before) → length before ≡ length other
        go (yes l) d = absurd (q.first (length before) l p.line)
        go (no n) (yes l) = absurd (p.first (length other) l q.line)
        go (no n) (no m) = omega arith

    whole : before ++ (marker ++ after) ≡ other ++ (marker ++ rest)
    whole = sym p.parts ∙ q.parts

    front : before ≡ other
    front = sym (take_at before (marker ++ after) (length before) refl) ∙ ap (λ x. take (length before) x) whole ∙ take_at other (marker ++ rest) (length before) (sym lengths)

    tails : marker ++ after ≡ marker ++ rest
    tails = sym (drop_at before (marker ++ after) (length before) refl) ∙ ap (λ x. drop (length before) x) whole ∙ drop_at other (marker ++ rest) (length before) (sym lengths)

    back : after ≡ rest
    back = sym (drop_at marker after (length marker) refl) ∙ ap (λ x. drop (length marker) x) tails ∙ drop_at marker rest (length marker) refl

-- a marker line gives the parts round it
pub cut_at : (text marker : List ℕ) (n : ℕ) → n < length text → ((i : ℕ) → i < n → IsMarkerLine text marker i → ⊥) → IsMarkerLine text marker n → IsCut text marker (take n text) (drop (n + length marker) text)
cut_at text marker n l first line =
    let e : length (take n text) ≡ n = length-take-le n text (omega arith) in
    record { parts = parts_at text marker n line.is_marker; line = subst (λ k. IsMarkerLine text marker k) (sym e) line; first = λ i b. first i (subst (λ k. i < k) e b) }
