-- Inside: what is told of a refusal, as it is printed.
use Rattle.std.specs.Prelude.{ℕ, List, string_bytes}
use Rattle.lft_text_diagnostics.specs.{Diagnostics.told_words, declared.diagnostic.Diagnostic.Diagnostic}

-- A diagnostic as it is printed.
abbrev pub printed : Diagnostic → List ℕ
printed d = told_words (string_bytes d.place) (string_bytes d.sentence) (string_bytes d.lines) (string_bytes d.help)
