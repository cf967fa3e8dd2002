-- Inside: the lexical grammar of whole Lingua Franca: what begins at a place of a text, and where it ends. Here t is the
-- text, a list of bytes, and i and j are places in it, counted from 0.
use Rattle.std.specs.Prelude.{◌≡◌, ℕ, ◌+◌, ◌<◌, ◌≤◌, List, Err, true, codes}
use Rattle.lft_whole.specs.{declared.fault.TextFault.TextFault, Pieces.{stands, past_in_line, past_or_next, tokens_of}}
use Rattle.lft_whole.specs.declared.fault.TextFault.TheVariants as faults

-- no quote from i up to j begins a string that ends on its line
abbrev pub QuoteNothing : List ℕ → ℕ → ℕ → Type 0
QuoteNothing t i j = (k : ℕ) → i ≤ k → k < j → stands (codes "\"") t k ≡ true → past_or_next k (past_in_line 34 t (k + 1)) ≡ k + 1

-- the grammar refuses the text at that byte, unless memory ran out
abbrev pub IsRefused : List ℕ → TextFault → Type 0
IsRefused t (faults.BadText i) = tokens_of t ≡ Err (faults.BadText i)
IsRefused t faults.NoMemory = Unit {0}
