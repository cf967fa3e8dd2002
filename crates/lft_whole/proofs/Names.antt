-- Names among the pieces of a text, and their bytes.
use Rattle.std.proofs.Common.{◌≡◌, ℕ, ◌<◌, ◌≤◌, true, false, List, [], ◌∷◌, length, IsAscii, ◌⊎◌, inl, inr, subst, arith}
use Rattle.std.specs.Prelude.{slice_index, slice_range}
use Rattle.std.specs.List.{All}
use Rattle.std.proofs.lemmas.{List.Elements.{All-cons, All-get_or, All-weaker}, Str.Ascii.IsAscii-from_reads, Bool.{cases_lt, Decides.nat_tests}}
use Rattle.lft_lists.specs.Bytes.{is_letter, is_word}
use Rattle.lft_syntax.{proofs.{Identifiers.range_identifier, TokenFacts.word_ascii}, specs.Lexes.Run}
use Rattle.lft_tree.specs.Identifiers.{IsIdentifier}

letter_word : (b : ℕ) → is_letter b ≡ true → is_word b ≡ false → ⊥
letter_word b h n = grind (arith, nat_tests)

-- a run of letters and digits that begins with a letter goes further
pub run_further : (t : List ℕ) (i j : ℕ) → i < length t → is_letter (slice_index t i) ≡ true → Run is_word t i j → i < j
run_further t i j inside letter run = further (cases_lt i j)
  where
    further : (i < j) ⊎ (j ≤ i) → i < j
    further (inl lt) = lt
    further (inr ge) =
        let same : j ≡ i = omega (arith, run.order, ge) in
        absurd (letter_word (slice_index t i) letter (subst (λ (n : ℕ). is_word (slice_index t n) ≡ false) same (run.stops (omega (arith, same, inside)))))

-- and is an identifier
pub run_identifier : (t : List ℕ) (i j : ℕ) → i < length t → is_letter (slice_index t i) ≡ true → Run is_word t i j → IsIdentifier (slice_range t i j)
run_identifier t i j inside letter run = range_identifier t i j (run_further t i j inside letter run) run.within letter run.each

letter_ascii : (b : ℕ) → is_letter b ≡ true → b < 128
letter_ascii b h = grind (arith, nat_tests)

identifier_bytes : (xs : List ℕ) → IsIdentifier xs → All (λ d. d < 128) xs
identifier_bytes [] h = absurd h
identifier_bytes (c ∷ cs) h = All-cons (λ d. d < 128) c cs (letter_ascii c h.0) (All-weaker (λ d. is_word d ≡ true) (λ d. d < 128) word_ascii cs h.1)

-- the bytes of an identifier are ASCII, and so UTF-8
pub identifier_ascii : (xs : List ℕ) → IsIdentifier xs → IsAscii xs
identifier_ascii xs h = IsAscii-from_reads xs (length xs) (omega arith) (λ k lt. All-get_or (λ d. d < 128) xs k 0 lt (identifier_bytes xs h))
