use Rattle.std.proofs.Common.{string_bytes}
use Rattle.lft_tree.specs.Identifiers.{IsName}
use Rattle.lft_lower.proofs.reactions.never.Given as goal

abbrev pub invariant-loop : goal.invariant-loop
invariant-loop l = IsName (string_bytes l.name)
