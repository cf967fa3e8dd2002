-- The bytes of a text at which a part of its tree stands.
use Rattle.std.specs.Prelude.{ℕ, ◌+◌, List, Option, Some, None, slice_get}
use Rattle.lft_tree.specs.declared.tree.{Reactor.Reactor, Reference.Reference, TimeExpression.TimeExpression}
use Rattle.lft_syntax.specs.declared.token.Token.{Token}
use Rattle.lft_program_diagnostics.specs.declared.spans.Span.{Span}
use Rattle.lft_tree.specs.declared.tree.TimeExpression.TheVariants as times

-- The bytes from the start of the one token up to the end of the other, if both are there.
abbrev pub span_of : Option Token → Option Token → Option Span
span_of (Some first) (Some last) = Some (record { start = first.start; end = last.end })
span_of _ _ = None

-- The bytes from the token with the one number up to the end of that with the other, or none where the text has fewer tokens.
abbrev pub span : List Token → ℕ → ℕ → Option Span
span tokens first last = span_of (slice_get tokens first) (slice_get tokens last)

-- So many tokens further, if there is something.
abbrev pub behind_if : {X : Type 0} → ℕ → ℕ → Option X → ℕ
behind_if by at None = at
behind_if by at (Some x) = at + by

-- A name ends with its token, and with a port two tokens further.
abbrev pub last_of_name : Reference → ℕ
last_of_name x = behind_if 2 x.at x.port

-- A time ends with its token, and with a unit one token further.
abbrev pub last_of_time : TimeExpression → ℕ
last_of_time (times.Written time at) = behind_if 1 at time.unit
last_of_time (times.Parameter name at) = at

-- The token of a name, or without one the token behind.
abbrev pub last_of_words : {X : Type 0} → ℕ → Option X → ℕ
last_of_words at None = at + 1
last_of_words at (Some name) = at

-- The last token of what a reactor is told by: its name, or `reactor` behind `main`.
abbrev pub last_of_head : Reactor → ℕ
last_of_head x = last_of_words x.at x.name
