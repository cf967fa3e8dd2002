use Rattle.std.proofs.Common.{◌-◌}
use Rattle.lft_tables.specs.Records.{records_of}
use Rattle.lft_record.proofs.CardFacts.{Gathered}
use Rattle.lft_record.proofs.cards.card_table.read_records.Given as goal

abbrev pub invariant-lines : goal.invariant-lines
invariant-lines l = Gathered l.program (records_of l.fn.text) l.cards l.records

abbrev pub decreases-lines : goal.decreases-lines
decreases-lines l = l.records.last - l.records.line
