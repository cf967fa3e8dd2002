use Rattle.std.proofs.Common.{◌≡◌, true, subst}
use Rattle.lft_ir.specs.Parts.{Parts}
use Rattle.lft_tables.specs.Records.{records_of}
use Rattle.lft_record.specs.{CardTables.{CardTable, CardsFail}, CardFaults.is_told, Answers.AnswerRefusalUnder.{by_cards, by_recording}}
use Rattle.std.proofs.KnownBytes.{Keeps-refl}
use Rattle.lft_record.proofs.answer.record_plan.Goals as goal

pub returns-in-Err-clause-refused : goal.returns-in-Err-clause-refused
returns-in-Err-clause-refused g c =
    let fails = λ (told : is_told c.in-Err.fault ≡ true). subst (λ (p : Parts). CardsFail p (records_of c.args.cards.now) c.in-Err.fault) c.program.ensures.value (c.in-Err.ensures.fault told).0 in
    by_cards c.in-Err.fault c.cards_fault.ensures.part c.cards_fault.ensures.number fails (Keeps-refl (g.W.Write.contents c.args.out.now))

pub returns-clause-refused : goal.returns-clause-refused
returns-clause-refused g c =
    let table = subst (λ (p : Parts). CardTable p (records_of c.args.cards.now) c.in-Ok.cards) c.program.ensures.value c.in-Ok.ensures.table in
    by_recording c.in-Ok.cards table c.in-Err-record_cards.ensures.refused
