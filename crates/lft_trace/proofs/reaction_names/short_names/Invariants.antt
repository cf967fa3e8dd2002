use Rattle.std.proofs.Common.{◌≡◌, length}
use Rattle.lft_trace.specs.inner.ShortNames.{AreShort}
use Rattle.lft_trace.proofs.reaction_names.short_names.Given as goal

abbrev pub invariant-loop-number : goal.invariant-loop-number
invariant-loop-number l = record { as_many : length l.names.items ≡ l.number; short : AreShort l.program.names.reactions l.names.items }
