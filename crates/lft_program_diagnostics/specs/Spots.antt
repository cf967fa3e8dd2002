-- The bytes of a text at which what a witness shows stands.
use Rattle.std.specs.Prelude.{ℕ, List, Option, None, nat_lt, if◌then◌else◌}
use Rattle.lft_tree.specs.declared.tree.{Reference.Reference, TimeExpression.TimeExpression}
use Rattle.lft_syntax.specs.{Placed.token_of, declared.token.Token.Token}
use Rattle.lft_program_diagnostics.specs.{Spans.{last_of_head, last_of_name, last_of_time, span}, declared.spans.Span.Span}
use Rattle.lft_validate.specs.declared.{finding.Finding.Finding, witness.Witness.Witness}
use Rattle.lft_validate.specs.declared.finding.Finding.TheVariants as finding
use Rattle.lft_validate.specs.declared.witness.Witness.TheVariants as witness

-- the bytes of a token
abbrev pub token_spot : List Token → ℕ → Option Span
token_spot tokens at = span tokens at at

-- the bytes of a name
abbrev pub name_spot : List Token → Reference → Option Span
name_spot tokens x = span tokens x.at (last_of_name x)

-- the bytes of a time
abbrev pub time_spot : List Token → TimeExpression → Option Span
time_spot tokens x = span tokens (token_of x) (last_of_time x)

-- of two names the one that stands later in the text
abbrev pub later : Reference → Reference → Reference
later one other = if nat_lt one.at other.at then other else one

-- where what the finding shows stands: of two that are one the second
abbrev pub found_spot : List Token → Finding → Option Span
found_spot tokens (finding.GivenTwice i first second) = token_spot tokens second.at
found_spot tokens (finding.UnknownReactor i) = token_spot tokens i.now.reactor_at
found_spot tokens (finding.UnknownName x) = name_spot tokens x.now
found_spot tokens (finding.UnknownTime t) = time_spot tokens t.now
found_spot tokens (finding.UnknownParameter i a) = token_spot tokens a.now.at
found_spot tokens (finding.WrongPlace role x kind) = name_spot tokens x.now
found_spot tokens (finding.WrongTime t kind) = time_spot tokens t.now
found_spot tokens (finding.MainHasPort p) = token_spot tokens p.now.at
found_spot tokens (finding.WidthMismatch c) = token_spot tokens c.now.arrow
found_spot tokens (finding.NoTrigger x) = token_spot tokens x.now.at
found_spot tokens (finding.NamedTwice role first second) = name_spot tokens second.now
found_spot tokens (finding.LongTime t) = time_spot tokens t.now

-- where what the witness shows stands: of two that are one, or that write one port, the second; of a reactor its name, or `main reactor` where it has none
abbrev pub witness_spot : List Token → Witness → Option Span
witness_spot tokens witness.NoMain = None
witness_spot tokens (witness.TwoMains first second) = span tokens second.now.at (last_of_head second.now)
witness_spot tokens (witness.SameReactors first second) = token_spot tokens second.at
witness_spot tokens (witness.DeclaredTwice r first second) = token_spot tokens second.at
witness_spot tokens (witness.Member r f) = found_spot tokens f
witness_spot tokens (witness.JoinedTwice r first second) = name_spot tokens second.now
witness_spot tokens (witness.JoinedAndWritten r joined written) = name_spot tokens (later joined.now written.now)
witness_spot tokens (witness.LongDefault r p) = token_spot tokens p.now.at
