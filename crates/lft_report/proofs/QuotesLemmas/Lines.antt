-- The lines of quotes, one after another.
use Rattle.std.proofs.Common.{◌≡◌, ℕ, suc, ◌+◌, ◌≤◌, List, ◌++◌, length, drop, add-one, append-nil, append_assoc, sym, ap, ◌∙◌, Option, Some, slice_get}
use Rattle.std.proofs.lemmas.List.{drop_all}
use Rattle.lft_ir.{specs.{Parts.Parts, declared.steps.row.Row.Row}, proofs.WordsLemmas.Steps.drop_next}
use Rattle.lft_report.specs.{declared.quotes.{marks.Quote.Quote, quoting.QuoteWidths.QuoteWidths}, Quotes.Quoted.{quote_words, gap_words, lines}}

-- two pieces behind a text, before what is left
pub pieces : (s0 s1 s2 a b rest : List ℕ) → s1 ≡ s0 ++ a → s2 ≡ s1 ++ b → s2 ++ rest ≡ s0 ++ (a ++ b ++ rest)
pieces s0 s1 s2 a b rest p q = rw (q, p) (simp append_assoc)

-- one more line
pub lines_more : (program : Parts) (t : List Row) (w : QuoteWidths) (before : Option Quote) (qs : List Quote) (i : ℕ) (q : Quote) (s0 s1 s2 all : List ℕ) → slice_get qs i ≡ Some q → s1 ≡ s0 ++ gap_words w before q → s2 ≡ s1 ++ quote_words program t w q → s0 ++ lines program t w before (drop i qs) ≡ all → s2 ++ lines program t w (Some q) (drop (i + 1) qs) ≡ all
lines_more program t w before qs i q s0 s1 s2 all e gap one so_far =
    ap (λ n. s2 ++ lines program t w (Some q) (drop n qs)) (add-one i)
    ∙ pieces s0 s1 s2 (gap_words w before q) (quote_words program t w q) (lines program t w (Some q) (drop (suc i) qs)) gap one
    ∙ sym (ap (λ zs. s0 ++ lines program t w before zs) (drop_next qs i q e))
    ∙ so_far

-- no line is left
pub lines_end : (program : Parts) (t : List Row) (w : QuoteWidths) (before : Option Quote) (qs : List Quote) (i : ℕ) (s all : List ℕ) → length qs ≤ i → s ++ lines program t w before (drop i qs) ≡ all → s ≡ all
lines_end program t w before qs i s all l so_far = sym (append-nil s) ∙ sym (ap (λ zs. s ++ lines program t w before zs) (drop_all i qs l)) ∙ so_far
