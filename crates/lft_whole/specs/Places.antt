-- The places of tokens.
use Rattle.std.specs.Prelude.{ℕ, ◌<◌, ◌≤◌, List, length}
use Rattle.lft_syntax.specs.declared.token.Token.{Token}
use Rattle.lft_whole.specs.declared.fault.TreeFault.{TreeFault}
use Rattle.lft_whole.specs.declared.fault.TreeFault.TheVariants as faults

-- the fault is of one of these tokens, or of their end
abbrev pub IsAmong : List Token → TreeFault → Type 0
IsAmong tokens (faults.Unexpected at) = at ≤ length tokens
IsAmong tokens (faults.Package at) = at < length tokens
IsAmong tokens faults.NoMemory = Unit {0}
