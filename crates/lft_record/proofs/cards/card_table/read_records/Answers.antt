use Rattle.std.proofs.Common.{rules, ◌≡◌}
use Rattle.lft_tables.{specs.{Records.records_of, inner.Records.fields_at_hand}, proofs.TableFacts.{ended, fewer, past}}
use Rattle.lft_record.{specs.CardTables.{card_tables, cards_header}, proofs.CardFacts.{bad, one_more, refused, start}}
use Rattle.lft_record.proofs.cards.card_table.read_records.Goals as goal

pub lines-init : goal.lines-init
lines-init c =
    let top : fields_at_hand c.next.new.self ≡ cards_header = search rules in
    start c.args.program.now c.args.text.now c.in-Ok.cards c.new-records.result c.next.new.self c.new-records.ensures.unread (c.in-Ok-true.ensures.found c.in-Ok-true.field-0-test c.new-records.ensures.unread.plain) top c.in-Ok.ensures.long c.in-Ok.ensures.blank

pub returns-in-Ok-false-next-clause-table : goal.returns-in-Ok-false-next-clause-table
returns-in-Ok-false-next-clause-table c =
    let g = c.lines.invariant in
    record {
      cards = g.cards;
      holds = ended (card_tables c.args.program.now) (records_of c.args.text.now) g.cards c.lines.records g.read (c.in-Ok-false-next.ensures.none c.in-Ok-false-next.field-0-test c.lines.invariant.read.plain);
      told = g.told;
    }

pub returns-in-Err-next-clause-fault : goal.returns-in-Err-next-clause-fault
returns-in-Err-next-clause-fault c told =
    let g = c.lines.invariant in
    let s = c.stopped-in-Err-next.ensures told in
    rw s.1 (past (card_tables c.args.program.now) (records_of c.args.text.now) g.cards c.lines.records c.next-in-lines.new.self g.read (c.in-Err-next.ensures.many s.0 c.lines.invariant.read.plain))

pub returns-in-Err-read_card-clause-fault : goal.returns-in-Err-read_card-clause-fault
returns-in-Err-read_card-clause-fault c told =
    bad c.args.program.now (records_of c.args.text.now) c.lines.cards c.lines.records c.next-in-lines.new.self c.lines.invariant c.in-Err-read_card.fault (c.in-Ok-true-next.ensures.found c.in-Ok-true-next.field-0-test c.lines.invariant.read.plain) (λ before. rw c.fields-in-lines.ensures at c.in-Err-read_card.ensures.fault before told)

pub returns-in-Ok-false-add-clause-fault : goal.returns-in-Ok-false-add-clause-fault
returns-in-Ok-false-add-clause-fault c _ =
    refused c.args.program.now (records_of c.args.text.now) c.lines.cards c.lines.records c.next-in-lines.new.self c.lines.invariant c.add.new.self c.in-Ok-read_card.card (c.in-Ok-true-next.ensures.found c.in-Ok-true-next.field-0-test c.lines.invariant.read.plain)
    (rw c.fields-in-lines.ensures at c.in-Ok-read_card.ensures.card) c.in-Ok-read_card.ensures.within (rw c.in-Ok-false-add.field-0-test at c.in-Ok-false-add.ensures)

pub lines-smaller : goal.lines-smaller
lines-smaller c = fewer c.lines.records c.next-in-lines.new.self (c.in-Ok-true-next.ensures.counted c.in-Ok-true-next.field-0-test)

pub lines-preserved : goal.lines-preserved
lines-preserved c =
    one_more c.args.program.now (records_of c.args.text.now) c.lines.cards c.lines.records c.next-in-lines.new.self c.lines.invariant c.add.new.self c.in-Ok-read_card.card (c.in-Ok-true-next.ensures.found c.in-Ok-true-next.field-0-test c.lines.invariant.read.plain)
    (rw c.fields-in-lines.ensures at c.in-Ok-read_card.ensures.card) c.in-Ok-read_card.ensures.within (rw c.in-Ok-true-add.field-0-test at c.in-Ok-true-add.ensures)
