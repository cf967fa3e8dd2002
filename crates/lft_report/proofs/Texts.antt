-- Pieces of a text, and its parts.
use Rattle.std.proofs.Common.{◌≡◌, ℕ, Bool, List, ◌++◌, append_assoc, ap, ◌∙◌}
use Rattle.lft_ir.specs.{Parts.Parts, declared.steps.row.Row.Row}
use Rattle.lft_facts.specs.declared.facts.Fact.{Fact}
use Rattle.lft_report.specs.{Quotes.Quoted.quoted_rows, Sentences.sentence, Reads.inputs_table, Told.{details, part, told}}

-- five pieces behind a text
pub five : (s0 s1 s2 s3 s4 s5 a b c d e : List ℕ) → s1 ≡ s0 ++ a → s2 ≡ s1 ++ b → s3 ≡ s2 ++ c → s4 ≡ s3 ++ d → s5 ≡ s4 ++ e → s5 ≡ s0 ++ (a ++ b ++ c ++ d ++ e)
five s0 s1 s2 s3 s4 s5 a b c d e p q r s t = rw (t, s, r, q, p) (simp append_assoc)

-- the parts of a text
pub told_parts : (whole : Bool) (program : Parts) (t rows : List Row) (facts all : List Fact) (s0 s1 s2 s3 w q d v r e : List ℕ) → t ≡ rows → facts ≡ all → s0 ≡ sentence program t facts → w ≡ inputs_table program facts → q ≡ quoted_rows program t facts → d ≡ details program t facts → v ≡ w → r ≡ q → e ≡ d → s1 ≡ s0 ++ part whole v → s2 ≡ s1 ++ part whole r → s3 ≡ s2 ++ part whole e → s3 ≡ told whole program rows all
told_parts whole program t rows facts all s0 s1 s2 s3 w q d v r e same_t same_f is_s is_w is_q is_d same_w same_q same_d one two three =
    let a : s1 ≡ sentence program t facts ++ part whole (inputs_table program facts) = one ∙ ap (λ z. z ++ part whole v) is_s ∙ ap (λ z. sentence program t facts ++ part whole z) (same_w ∙ is_w) in
    let b : s2 ≡ sentence program t facts ++ part whole (inputs_table program facts) ++ part whole (quoted_rows program t facts) = two ∙ ap (λ z. z ++ part whole r) a ∙ ap (λ z. sentence program t facts ++ part whole (inputs_table program facts) ++ part whole z) (same_q ∙ is_q) in
    three
    ∙ ap (λ z. z ++ part whole e) b
    ∙ ap (λ z. sentence program t facts ++ part whole (inputs_table program facts) ++ part whole (quoted_rows program t facts) ++ part whole z) (same_d ∙ is_d)
    ∙ ap (λ z. told whole program z facts) same_t
    ∙ ap (λ z. told whole program rows z) same_f
