-- Inside: what contracts see of the tokens of a text.
use Rattle.std.specs.Prelude.{◌≡◌, ℕ, Result, Ok, Err}
use Rattle.lft_syntax.specs.declared.parse_error.ParseError.{ParseError}
use Rattle.lft_syntax.specs.declared.parse_error.ParseError.TheVariants as errors

-- ---- for the parser's own contracts
-- what a function returned, seen by view, is what a reading gives, unless memory ran out
abbrev pub Fails : {Y : Type 0} → ParseError → Result Y ℕ → Type 0
Fails errors.Memory read = Unit {0}
Fails (errors.Unexpected k) read = read ≡ Err k

abbrev pub Gives : {X Y : Type 0} → (X → Y) → Result X ParseError → Result Y ℕ → Type 0
Gives view (Ok x) read = read ≡ Ok (view x)
Gives view (Err e) read = Fails e read

abbrev pub at_next : ℕ → Unit {0} × ℕ
at_next j = (tt, j)
