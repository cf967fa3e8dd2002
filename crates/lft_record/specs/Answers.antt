-- What is recorded of a plan with cards.
use Rattle.std.specs.Prelude.{◌≡◌, ℕ, List, Option, true}
use Rattle.std.specs.Io.KnownBytes.{Keeps}
use Rattle.lft_tables.specs.Records.{records_of}
use Rattle.lft_model.specs.Plans.{PlanParts}
use Rattle.lft_record.specs.{CardTables.{CardTable, CardsFail}, CardFaults.is_told, declared.cards.{Script.Script, fault.CardFault.CardFault}}
use Rattle.lft_record.specs.{Faults.card_number, Recordings.{IsPlanRecorded, RecordRefusal}, Scripts.card_law}
use Rattle.lft_load.specs.declared.fault.Fault.{Fault}
use Rattle.lft_load.specs.declared.fault.Part.TheVariants as part

-- the plan was recorded to its stop, and each ended run answered what the cards say
pub record IsAnswerUnder (plan : PlanParts) (cards : List ℕ) (workers max_runs : ℕ) (old new : Option (List ℕ)) : Type 0 where
  pub scripts : List Script
  pub are_cards : CardTable plan.program (records_of cards) scripts
  pub recorded : IsPlanRecorded (card_law scripts) plan workers max_runs old new

-- the plan wasn't recorded: the text is no table of cards, a growth was refused, or the recording ended before, and each run that had ended answered what the cards say
pub data AnswerRefusalUnder (plan : PlanParts) (cards : List ℕ) (workers max_runs : ℕ) (old new : Option (List ℕ)) (f : Fault) : Type 0 where
  by_cards : (e : CardFault) → f.part ≡ part.Cards → f.number ≡ card_number e → (is_told e ≡ true → CardsFail plan.program (records_of cards) e) → Keeps old new → AnswerRefusalUnder plan cards workers max_runs old new f
  by_growth : f.part ≡ part.Memory → f.number ≡ 1 → Keeps old new → AnswerRefusalUnder plan cards workers max_runs old new f
  by_recording : (scripts : List Script) → CardTable plan.program (records_of cards) scripts → RecordRefusal (card_law scripts) plan workers max_runs old new f → AnswerRefusalUnder plan cards workers max_runs old new f
