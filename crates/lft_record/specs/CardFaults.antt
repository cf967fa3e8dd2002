-- What a fault tells.
use Rattle.std.specs.Prelude.{Bool, true, false}
use Rattle.lft_record.specs.declared.cards.fault.CardFault.{CardFault}
use Rattle.lft_record.specs.declared.cards.fault.CardFault.TheVariants as fault

-- whether a fault tells something of the text: want of memory and a failed reader don't
abbrev pub is_told : CardFault → Bool
is_told fault.NotCsv = false
is_told fault.NoMemory = false
is_told e = true
