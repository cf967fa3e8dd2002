-- A diagnostic as it is printed, by what is known of its parts.
use Rattle.std.proofs.Common.{◌≡◌, ◌++◌, ℕ, List, ap, append_assoc, codes, ◌∙◌, refl, string_bytes}
use Rattle.lft_text_diagnostics.specs.{Diagnostics.{SaysOf, told_words}, inner.Diagnostics.printed, Tables.Tables.ContinuesFrom}
use Rattle.lft_text_diagnostics.specs.declared.diagnostic.Diagnostic.{Diagnostic}

pub told_same : {a b c d : List ℕ} (place sentence lines help : List ℕ) → a ≡ place → b ≡ sentence → c ≡ lines → d ≡ help → told_words a b c d ≡ told_words place sentence lines help
told_same {a} {b} {c} {d} place sentence lines help e f g h = ap (λ s. told_words s b c d) e ∙ ap (λ s. told_words place s c d) f ∙ ap (λ s. told_words place sentence s d) g ∙ ap (λ s. told_words place sentence lines s) h

regroup : (a b c d e : List ℕ) → a ++ b ++ c ++ d ++ e ≡ a ++ (b ++ c ++ d ++ e)
regroup a b c d e = ap (λ s. s ++ d ++ e) (append_assoc a b c) ∙ ap (λ s. s ++ e) (append_assoc a (b ++ c) d) ∙ append_assoc a (b ++ c ++ d) e

module _ (d : Diagnostic) (place words : List ℕ) (is : words ≡ printed d) (e : string_bytes d.place ≡ place) where
  pub says_of : (sentence : List ℕ) → string_bytes d.sentence ≡ sentence → SaysOf place sentence words
  says_of sentence f = (string_bytes d.lines, string_bytes d.help, is ∙ told_same place sentence (string_bytes d.lines) (string_bytes d.help) e f refl refl)

  pub begins : ContinuesFrom place words
  begins =
      let sentence = string_bytes d.sentence in
      let lines = string_bytes d.lines in
      let help = string_bytes d.help in
      (sentence ++ codes "\n" ++ lines ++ help, is ∙ ap (λ s. told_words s sentence lines help) e ∙ regroup place sentence (codes "\n") lines help)

-- what begins with two things begins with the first
pub begins_with : (a b words : List ℕ) → ContinuesFrom (a ++ b) words → ContinuesFrom a words
begins_with a b words h = (b ++ h.0, h.1 ∙ append_assoc a b h.0)
