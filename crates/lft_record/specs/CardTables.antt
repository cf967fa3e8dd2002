-- Tables of cards: the scripts of their records, and their faults.
use Rattle.std.specs.Prelude.{◌≡◌, ◌≢◌, ◌==◌, ◌⊎◌, ℕ, List, [], ◌∷◌, length, codes, slice_get, filter_map, option_to_list, cond, Bool, true, false, not, ◌&&◌, ◌||◌, is_some, Option, Some, None}
use Rattle.lft_ir.specs.{Names.IsNamed, Parts.Parts, declared.parts.Name.Name}
use Rattle.lft_trace.specs.{Numbers.{number, number_or_zero}, Traces.{IsThing, is_empty}}
use Rattle.lft_tables.specs.Tables.{Fails, Holds, TableKind}
use Rattle.lft_record.specs.Expressions.{IsExpression}
use Rattle.lft_record.specs.declared.cards.{card.{Card.Card, CardStep.CardStep, CardValue.CardValue, CardEntry.CardEntry}, Script.Script}
use Rattle.lft_record.specs.declared.cards.{expression.Summand.Summand, fault.CardFault.CardFault, kind.CardKind.CardKind}
use Rattle.lft_ir.specs.declared.found.Found.TheVariants as found
use Rattle.lft_record.specs.declared.cards.card.CardStep.TheVariants as step
use Rattle.lft_record.specs.declared.cards.card.CardValue.TheVariants as content
use Rattle.lft_record.specs.declared.cards.card.CardEntry.TheVariants as entry
use Rattle.lft_record.specs.declared.cards.fault.CardFault.TheVariants as fault
use Rattle.lft_record.specs.declared.cards.kind.CardKind.TheVariants as kind

-- the fields of a record of a table of cards
pub record CardFields : Type 0 where
  pub kind : List ℕ
  pub reaction : List ℕ
  pub name : List ℕ
  pub delay : List ℕ
  pub value : List ℕ

-- the fields in the order of the columns
abbrev pub card_columns : CardFields → List (List ℕ)
card_columns c = c.kind ∷ c.reaction ∷ c.name ∷ c.delay ∷ c.value ∷ []

-- the first record
abbrev pub cards_header : List (List ℕ)
cards_header = codes "kind" ∷ codes "reaction" ∷ codes "name" ∷ codes "delay" ∷ codes "value" ∷ []

-- how a kind is written
abbrev pub word : CardKind → List ℕ
word kind.Bodies = codes "bodies"
word kind.Write = codes "write"
word kind.Schedule = codes "schedule"
word kind.Stop = codes "stop"
word kind.State = codes "state"

-- whether records of a kind name a port or an action
abbrev pub kind_has_name : CardKind → Bool
kind_has_name kind.Bodies = false
kind_has_name kind.Write = true
kind_has_name kind.Schedule = true
kind_has_name kind.Stop = false
kind_has_name kind.State = false

-- whether records of a kind have a delay
abbrev pub kind_has_delay : CardKind → Bool
kind_has_delay kind.Bodies = false
kind_has_delay kind.Write = false
kind_has_delay kind.Schedule = true
kind_has_delay kind.Stop = false
kind_has_delay kind.State = false

-- whether records of a kind have a value
abbrev pub has_value : CardKind → Bool
has_value kind.Bodies = true
has_value kind.Write = true
has_value kind.Schedule = true
has_value kind.Stop = false
has_value kind.State = true

-- what is written or scheduled: `bare`, or else an expression
abbrev pub IsContent : Parts → ℕ → List ℕ → CardValue → Type 0
IsContent program r text content.Bare = text ≡ codes "bare"
IsContent program r text (content.Int terms) = (text ≢ codes "bare") × IsExpression program r text terms

-- what a card of a kind tells of reaction r
abbrev pub IsCardOfKind : Parts → CardKind → CardFields → ℕ → CardEntry → Type 0
IsCardOfKind program kind.Bodies c r e = (n : ℕ) × (number 1000000 c.value ≡ Some n) × (c.name ≡ []) × (c.delay ≡ []) × (e ≡ entry.Bodies n)
IsCardOfKind program kind.Write c r e = (n : Name) × (v : CardValue) × IsThing program c.name n × IsContent program r c.value v × (c.delay ≡ []) × (e ≡ entry.Step (step.Write n v))
IsCardOfKind program kind.Schedule c r e = (n : Name) × (v : CardValue) × (d : ℕ) × IsThing program c.name n × IsContent program r c.value v × (number_or_zero 1000000000000000000 c.delay ≡ Some d) × (e ≡ entry.Step (step.Schedule n v d))
IsCardOfKind program kind.Stop c r e = (c.name ≡ []) × (c.delay ≡ []) × (c.value ≡ []) × (e ≡ entry.Step step.Stop)
IsCardOfKind program kind.State c r e = (terms : List Summand) × IsExpression program r c.value terms × (c.name ≡ []) × (c.delay ≡ []) × (e ≡ entry.State terms)

-- the card of a record
pub record IsCard (program : Parts) (fields : List (List ℕ)) (card : Card) : Type 0 where
  pub columns : CardFields
  pub kind : CardKind
  pub in_columns : fields ≡ card_columns columns
  pub is_kind : columns.kind ≡ word kind
  pub reaction : IsNamed program.names (found.Reaction card.reaction) columns.reaction
  pub entry : IsCardOfKind program kind columns card.reaction card.entry

-- the number of bodies that a card gives, if it gives one
abbrev pub entry_bodies : CardEntry → Option ℕ
entry_bodies (entry.Bodies n) = Some n
entry_bodies (entry.Step s) = None
entry_bodies (entry.State terms) = None

-- the step that a card gives, if it gives one
abbrev pub entry_step : CardEntry → Option CardStep
entry_step (entry.Bodies n) = None
entry_step (entry.Step s) = Some s
entry_step (entry.State terms) = None

-- the word that a card gives, if it gives one
abbrev pub entry_state : CardEntry → Option (List Summand)
entry_state (entry.Bodies n) = None
entry_state (entry.Step s) = None
entry_state (entry.State terms) = Some terms

-- what the card tells, if it is one of reaction r
abbrev pub entry_of : ℕ → Card → Option CardEntry
entry_of r card = cond (r == card.reaction) (Some card.entry) None

-- what the cards of reaction r tell, in order
abbrev pub entries_of : ℕ → List Card → List CardEntry
entries_of r cards = filter_map (entry_of r) cards

-- what a reaction's cards tell: at most one number of bodies, the steps in order, at most one word
pub record IsScript (entries : List CardEntry) (script : Script) : Type 0 where
  pub bodies : filter_map entry_bodies entries ≡ option_to_list script.bodies
  pub steps : filter_map entry_step entries ≡ script.steps
  pub state : filter_map entry_state entries ≡ option_to_list script.state

-- there is a script for each reaction, which says what its cards tell
pub record AreTold (program : Parts) (cards : List Card) (scripts : List Script) : Type 0 where
  pub long : length scripts ≡ length program.reactions
  pub each : (r : ℕ) (script : Script) → slice_get scripts r ≡ Some script → IsScript (entries_of r cards) script

-- the number that a record of this kind has, if it has one, is within its limit
abbrev pub has_numbers_in_limits : CardKind → CardFields → Bool
has_numbers_in_limits kind.Bodies c = is_some (number 1000000 c.value)
has_numbers_in_limits kind.Write c = true
has_numbers_in_limits kind.Schedule c = is_some (number_or_zero 1000000000000000000 c.delay)
has_numbers_in_limits kind.Stop c = true
has_numbers_in_limits kind.State c = true

-- its reaction isn't one of the program, or the name that it has is of no port and no action
abbrev pub IsUnknown : Parts → CardKind → CardFields → Type 0
IsUnknown program kind c =
    ((r : ℕ) → IsNamed program.names (found.Reaction r) c.reaction → ⊥) ⊎ ((kind_has_name kind ≡ true) × ((n : Name) → IsThing program c.name n → ⊥))

-- a field that must be empty isn't
abbrev pub is_wrongly_filled : CardKind → CardFields → Bool
is_wrongly_filled kind c =
    (not (kind_has_name kind) && not (is_empty c.name)) || (not (kind_has_delay kind) && not (is_empty c.delay)) || (not (has_value kind) && not (is_empty c.value))

-- what is written, scheduled or left as the state word is spelled by nothing
abbrev pub IsUnspelled : Parts → CardKind → ℕ → List ℕ → Type 0
IsUnspelled program kind.Bodies r text = ⊥
IsUnspelled program kind.Write r text = (v : CardValue) → IsContent program r text v → ⊥
IsUnspelled program kind.Schedule r text = (v : CardValue) → IsContent program r text v → ⊥
IsUnspelled program kind.Stop r text = ⊥
IsUnspelled program kind.State r text = (terms : List Summand) → IsExpression program r text terms → ⊥

-- its value is no expression of its reaction, and not `bare` where that may be
abbrev pub HasBadValue : Parts → CardKind → CardFields → Type 0
HasBadValue program kind c = (r : ℕ) × IsNamed program.names (found.Reaction r) c.reaction × IsUnspelled program kind r c.value

-- a record of this kind
abbrev pub IsOf : CardKind → CardFields → List (List ℕ) → Type 0
IsOf kind c fields = (fields ≡ card_columns c) × (c.kind ≡ word kind)

-- the card tells a number of bodies or a word of a reaction that one was told of before
abbrev pub IsAgain : List Card → Card → Type 0
IsAgain before card =
    ((n : ℕ) × (entry_bodies card.entry ≡ Some n) × (filter_map entry_bodies (entries_of card.reaction before) ≢ []))
    ⊎ ((terms : List Summand) × (entry_state card.entry ≡ Some terms) × (filter_map entry_state (entries_of card.reaction before) ≢ []))

-- the fault of a record after the cards before it: the first that it has, in the order count, kind, number, name, field in place, value, given before
abbrev pub FaultAt : Parts → List Card → ℕ → List (List ℕ) → CardFault → Type 0
FaultAt program before line fields (fault.BadFieldCount n) = (n ≡ line) × (length fields ≢ 5)
FaultAt program before line fields (fault.BadKind n) = (n ≡ line) × (c : CardFields) × (fields ≡ card_columns c) × ((k : CardKind) → c.kind ≢ word k)
FaultAt program before line fields (fault.BadNumber n) = (n ≡ line) × (c : CardFields) × (k : CardKind) × IsOf k c fields × (has_numbers_in_limits k c ≡ false)
FaultAt program before line fields (fault.UnknownName n) = (n ≡ line) × (c : CardFields) × (k : CardKind) × IsOf k c fields × (has_numbers_in_limits k c ≡ true) × IsUnknown program k c
FaultAt program before line fields (fault.FieldInPlace n) = (n ≡ line) × (c : CardFields) × (k : CardKind) × IsOf k c fields × (has_numbers_in_limits k c ≡ true) × (IsUnknown program k c → ⊥) × (is_wrongly_filled k c ≡ true)
FaultAt program before line fields (fault.BadValue n) = (n ≡ line) × (c : CardFields) × (k : CardKind) × IsOf k c fields × (has_numbers_in_limits k c ≡ true) × (IsUnknown program k c → ⊥) × (is_wrongly_filled k c ≡ false) × HasBadValue program k c
FaultAt program before line fields (fault.GivenTwice n) = (n ≡ line) × (card : Card) × IsCard program fields card × IsAgain before card
FaultAt program before line fields e = ⊥

-- tables of cards: those stand together that can be told together
abbrev pub card_tables : Parts → TableKind Card CardFault
card_tables program = record { header = cards_header; Tells = IsCard program; Together = λ cards. (scripts : List Script) × AreTold program cards scripts; FaultAt = FaultAt program; no_header = fault.BadHeader; too_many = fault.TooManyRows }

-- the records are the header and those of cards, which tell what the bodies of each reaction answer
pub record CardTable (program : Parts) (records : List (List (List ℕ))) (scripts : List Script) : Type 0 where
  pub cards : List Card
  pub holds : Holds (card_tables program) records cards
  pub told : AreTold program cards scripts

-- the fault of records that are no table of cards: no header, else the fault of the least line, else too many rows
abbrev pub CardsFail : Parts → List (List (List ℕ)) → CardFault → Type 0
CardsFail program records e = Fails (card_tables program) records e
