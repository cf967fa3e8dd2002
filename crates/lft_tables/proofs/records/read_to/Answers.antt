use Rattle.std.proofs.Common.{◌∙◌, ◌++◌, ◌∷◌, [], inl, ap}
use Rattle.std.proofs.lemmas.List.{take_more_set}
use Rattle.csv.specs.Records.{fields_of}
use Rattle.lft_tables.proofs.Fuel.{read-more, read-none}
use Rattle.lft_tables.proofs.records.read_to.Goals as goal

pub returns-in-Ok-read_byte_record-clause-found : goal.returns-in-Ok-read_byte_record-clause-found
returns-in-Ok-read_byte_record-clause-found g c found p =
    let row = c.read_byte_record.new.row in
    let m = read-more g.R.Read.remaining c.args.reader.now c.read_byte_record.new.self (fields_of row) p (inl (c.in-Ok-read_byte_record.ensures.ready p.0)) (rw found at c.in-Ok-read_byte_record.ensures.reads p.0 p.1) in
    (m.0, (row, take_more_set c.make_room.new.ahead.items c.args.place row c.in-Ok.ensures.there ∙ ap (λ t. t ++ row ∷ []) c.in-Ok.ensures.before, m.1))

pub returns-in-Ok-read_byte_record-clause-none : goal.returns-in-Ok-read_byte_record-clause-none
returns-in-Ok-read_byte_record-clause-none g c none p =
    read-none g.R.Read.remaining c.args.reader.now c.read_byte_record.new.self (fields_of c.read_byte_record.new.row) p (rw none at c.in-Ok-read_byte_record.ensures.reads p.0 p.1)
