use Rattle.std.proofs.Common.{◌≡◌, List, Result, Ok, Err, IfOk, IfErr, true}
use Rattle.lft_ir.specs.{Parts.Parts, Sound.IsSound}
use Rattle.lft_tables.{specs.Records.records_of, proofs.TableFacts.Texts}
use Rattle.lft_record.specs.{CardTables.{CardTable, CardsFail}, CardFaults.is_told, declared.cards.{Script.Script, fault.CardFault.CardFault}}
use Rattle.lft_record.proofs.CardTableFacts.{no_table, one_table}
use Rattle.lft_record.proofs.cards.card_table.read_cards.Goals as goal

one : (program : Parts) (records : Texts) (r : Result (List Script) CardFault) → IsSound program → IfOk r (CardTable program records) → IfOk r (λ cards. (other : List Script) → CardTable program records other → other ≡ cards)
one program records (Ok cards) sound h = λ other u. one_table program records cards other sound h u
one program records (Err e) sound h = tt

fault_told : (program : Parts) (records : Texts) (r : Result (List Script) CardFault) → IsSound program → IfErr r (λ e. is_told e ≡ true → CardsFail program records e)
    → IfErr r (λ e. is_told e ≡ true → CardsFail program records e × ((cards : List Script) → CardTable program records cards → ⊥))
fault_told program records (Ok cards) sound h = tt
fault_told program records (Err e) sound h = λ told. (h told, λ cards t. no_table program records e cards sound (h told) t)

pub returns-clause-one : goal.returns-clause-one
returns-clause-one c = one c.args.program.now (records_of c.args.text.now) c.read_records.result c.keeps.ensures.sound c.read_records.ensures.table

pub returns-clause-fault : goal.returns-clause-fault
returns-clause-fault c = fault_told c.args.program.now (records_of c.args.text.now) c.read_records.result c.keeps.ensures.sound c.read_records.ensures.fault
