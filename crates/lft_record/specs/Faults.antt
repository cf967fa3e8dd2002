-- The numbers of the faults of cards and of recordings.
use Rattle.std.specs.Prelude.{ℕ}
use Rattle.lft_record.specs.declared.cards.fault.CardFault.{CardFault}
use Rattle.lft_pool.specs.declared.stop.Stop.{Stop}
use Rattle.lft_record.specs.declared.cards.fault.CardFault.TheVariants as card
use Rattle.lft_pool.specs.declared.stop.Stop.TheVariants as stop

-- the number of a fault of a table of cards
abbrev pub card_number : CardFault → ℕ
card_number card.BadHeader = 1
card_number (card.BadFieldCount line) = 2
card_number (card.BadKind line) = 3
card_number (card.BadNumber line) = 4
card_number (card.UnknownName line) = 5
card_number (card.FieldInPlace line) = 6
card_number (card.BadValue line) = 7
card_number (card.GivenTwice line) = 8
card_number card.TooManyRows = 9
card_number card.NotCsv = 10
card_number card.NoMemory = 11

-- the number of a reason for which a recording stops
abbrev pub stop_number : Stop → ℕ
stop_number (stop.NoBody r) = 1
stop_number (stop.Collision g) = 2
stop_number (stop.UndeclaredEffect r) = 3
stop_number stop.TooManyRuns = 4
stop_number stop.Stranger = 5
stop_number stop.BodyNoMemory = 6
stop_number stop.NoMemory = 7
stop_number stop.NoWorker = 8
stop_number stop.PlanChanged = 9
stop_number stop.BadWorkers = 10
stop_number stop.TooManyRows = 11
stop_number stop.LimitTag = 12
