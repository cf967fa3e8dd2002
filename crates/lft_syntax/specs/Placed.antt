-- Where the parts of a program's tree stand among the tokens of its text, which are counted from 0.
use Rattle.std.specs.Prelude.{◌≡◌, ℕ, ◌+◌, List, [], ◌∷◌, codes, length, slice_get, string_bytes, option_map, Option, Some, None, IfSome, Bool, true, false, if◌then◌else◌}
use Rattle.lft_tree.specs.declared.tree.{TimeUnit.TimeUnit, TokenRange.TokenRange, TimeExpression.TimeExpression, Reference.Reference, Parameter.Parameter}
use Rattle.lft_tree.specs.declared.tree.{Port.Port, Timer.Timer, Action.Action, Trigger.Trigger, Reaction.Reaction, Assignment.Assignment, Instance.Instance}
use Rattle.lft_tree.specs.declared.tree.{Connection.Connection, Member.Member, Reactor.Reactor, Item.Item}
use Rattle.lft_tree.specs.View.{range_view, member_view}
use Rattle.lft_syntax.specs.{Lexeme.{Lexeme, Letters, Arrow, Symbol, is, is_name}, Language.many}
use Rattle.lft_tree.specs.declared.tree.TimeExpression.TheVariants as times
use Rattle.lft_tree.specs.declared.tree.Trigger.TheVariants as triggers
use Rattle.lft_tree.specs.declared.tree.Member.TheVariants as members
use Rattle.lft_tree.specs.declared.tree.Item.TheVariants as items
use Rattle.lft_syntax.specs.Grammar as Grammar

-- ---- how many tokens a part has

-- a name is one token; a port behind it is two more, with the point
abbrev pub port_tokens : {X : Type 0} → Option X → ℕ
port_tokens None = 1
port_tokens (Some port) = 3

-- how many tokens a name has
abbrev pub reference_tokens : Reference → ℕ
reference_tokens r = port_tokens r.port

-- a number is one token; its unit is one more
abbrev pub unit_tokens : Option TimeUnit → ℕ
unit_tokens None = 1
unit_tokens (Some unit) = 2

-- a time that is written is a number; the name of a parameter is one token
abbrev pub time_tokens : TimeExpression → ℕ
time_tokens (times.Written time at) = unit_tokens time.unit
time_tokens (times.Parameter name at) = 1

-- a trigger is a word or a name
abbrev pub trigger_tokens : Trigger → ℕ
trigger_tokens (triggers.Reference r) = reference_tokens r
trigger_tokens _ = 1

-- a value stands behind `=`, or in parentheses
abbrev pub assignment_tokens : List Lexeme → Assignment → ℕ
assignment_tokens ws x = if is (Symbol 61) (slice_get ws (x.at + 1)) then time_tokens x.value + 2 else time_tokens x.value + 3

-- a default stands so behind a colon and `time`
abbrev pub parameter_tokens : List Lexeme → Parameter → ℕ
parameter_tokens ws x = if is (Symbol 61) (slice_get ws (x.at + 3)) then unit_tokens x.default.unit + 4 else unit_tokens x.default.unit + 5

-- ---- lists with commas

-- how many tokens parts have that stand behind others, each with its comma
abbrev pub tokens_behind : {X : Type 0} → (X → ℕ) → List X → ℕ
tokens_behind tokens [] = 0
tokens_behind tokens (x ∷ xs) = 1 + tokens x + tokens_behind tokens xs

-- how many tokens a list has
abbrev pub row_tokens : {X : Type 0} → (X → ℕ) → List X → ℕ
row_tokens tokens [] = 0
row_tokens tokens (x ∷ xs) = tokens x + tokens_behind tokens xs

-- the first part of the list begins at the token i, each other one behind the comma behind the one before it
abbrev pub StandInRow : {X : Type 0} → (ℕ → X → Type 0) → (X → ℕ) → ℕ → List X → Type 0
StandInRow Stands tokens i [] = Unit {0}
StandInRow Stands tokens i (x ∷ xs) = Stands i x × StandInRow Stands tokens (i + tokens x + 1) xs

-- ---- names and times

-- the token is this word
abbrev pub IsWord : List Lexeme → ℕ → List ℕ → Type 0
IsWord ws i word = slice_get ws i ≡ Some (Letters word)

-- the place of a name is this token, and the token is the name
abbrev pub NameStands : List Lexeme → ℕ → ℕ → List ℕ → Type 0
NameStands ws i at name = (at ≡ i) × IsWord ws i name

-- a port, if there is one, is the second token behind the instance
abbrev pub PortWord : List Lexeme → ℕ → Option (List ℕ) → Type 0
PortWord ws i None = Unit {0}
PortWord ws i (Some port) = IsWord ws (i + 2) port

-- the name stands there, and its place is its first token
abbrev pub ReferenceStands : List Lexeme → ℕ → Reference → Type 0
ReferenceStands ws i x = NameStands ws i x.at (string_bytes x.head) × PortWord ws i (option_map string_bytes x.port)

-- the token with which a time begins
abbrev pub token_of : TimeExpression → ℕ
token_of (times.Written time at) = at
token_of (times.Parameter name at) = at

-- the place of the time is this token
abbrev pub TimeStands : ℕ → TimeExpression → Type 0
TimeStands i x = token_of x ≡ i

-- names with commas stand there
abbrev pub ReferencesStand : List Lexeme → ℕ → List Reference → Type 0
ReferencesStand ws = StandInRow (ReferenceStands ws) reference_tokens

-- how many tokens names with commas have
abbrev pub references_tokens : List Reference → ℕ
references_tokens = row_tokens reference_tokens

-- ---- members, each from its first token

-- `mutable` may stand before `input`
abbrev pub port_token : List Lexeme → ℕ → Bool → ℕ
port_token ws i true = if is (Letters (codes "mutable")) (slice_get ws i) then i + 2 else i + 1
port_token ws i false = i + 1

-- the place of a port is its name, behind `input` or `output`
abbrev pub PortStands : List Lexeme → ℕ → Port → Type 0
PortStands ws i x = NameStands ws (port_token ws i x.is_input) x.at (string_bytes x.name)

-- the offset begins at the token i, the period behind it and a comma
abbrev pub TimesStand : ℕ → Option TimeExpression → Option TimeExpression → Type 0
TimesStand i None period = Unit {0}
TimesStand i (Some offset) period = TimeStands i offset × IfSome period (TimeStands (i + time_tokens offset + 1))

-- the times of a timer stand in parentheses behind its name
abbrev pub TimerStands : List Lexeme → ℕ → Timer → Type 0
TimerStands ws i x = NameStands ws (i + 1) x.at (string_bytes x.name) × TimesStand (i + 3) x.offset x.period

-- the origin and `action` stand before the name, the delay in parentheses behind it
abbrev pub ActionStands : List Lexeme → ℕ → Action → Type 0
ActionStands ws i x = NameStands ws (i + 2) x.at (string_bytes x.name) × IfSome x.min_delay (TimeStands (i + 4))

-- a trigger that is a name stands there
abbrev pub TriggerStands : List Lexeme → ℕ → Trigger → Type 0
TriggerStands ws i (triggers.Reference r) = ReferenceStands ws i r
TriggerStands ws i _ = Unit {0}

-- triggers with commas stand there
abbrev pub TriggersStand : List Lexeme → ℕ → List Trigger → Type 0
TriggersStand ws = StandInRow (TriggerStands ws) trigger_tokens

-- a name that may be left out stands before that token
abbrev pub past_name : List Lexeme → ℕ → ℕ
past_name ws i = if is_name (slice_get ws i) then i + 1 else i

-- effects stand behind an arrow; without it there are none
abbrev pub EffectsStand : List Lexeme → ℕ → List Reference → Type 0
EffectsStand ws i xs = (is Arrow (slice_get ws i) ≡ true → ReferencesStand ws (i + 1) xs) × (is Arrow (slice_get ws i) ≡ false → xs ≡ [])

-- the triggers and uses of a reaction stand behind the parenthesis at the token i
abbrev pub PartsStand : List Lexeme → ℕ → Reaction → Type 0
PartsStand ws i x = TriggersStand ws (i + 1) x.triggers.items × ReferencesStand ws (i + row_tokens trigger_tokens x.triggers.items + 2) x.uses.items
    × EffectsStand ws (i + row_tokens trigger_tokens x.triggers.items + 2 + references_tokens x.uses.items) x.effects.items

-- behind `reaction` its own name may stand
abbrev pub ReactionStands : List Lexeme → ℕ → Reaction → Type 0
ReactionStands ws i x = (x.at ≡ i) × PartsStand ws (past_name ws (i + 1)) x

-- the value of a parameter begins behind its name and one token
abbrev pub AssignmentStands : List Lexeme → ℕ → Assignment → Type 0
AssignmentStands ws i x = NameStands ws i x.at (string_bytes x.name) × TimeStands (i + 2) x.value

-- values with commas stand there
abbrev pub AssignmentsStand : List Lexeme → ℕ → List Assignment → Type 0
AssignmentsStand ws = StandInRow (AssignmentStands ws) (assignment_tokens ws)

-- `=` and `new` stand between the names, a parenthesis before what is given
abbrev pub InstanceStands : List Lexeme → ℕ → Instance → Type 0
InstanceStands ws i x = NameStands ws i x.at (string_bytes x.name) × NameStands ws (i + 3) x.reactor_at (string_bytes x.reactor) × AssignmentsStand ws (i + 5) x.given.items

-- the arrow stands behind the sources, and `after` behind the destinations
abbrev pub ConnectionStands : List Lexeme → ℕ → Connection → Type 0
ConnectionStands ws i x = ReferencesStand ws i x.sources.items × (x.arrow ≡ i + references_tokens x.sources.items) × (slice_get ws x.arrow ≡ Some Arrow)
    × ReferencesStand ws (x.arrow + 1) x.destinations.items × IfSome x.delay (TimeStands (x.arrow + 1 + references_tokens x.destinations.items + 1))

-- the parts of the member stand where they say, if it begins there; the grammar says which tokens are a state variable or a preamble
abbrev pub MemberStands : List Lexeme → ℕ → Member → Type 0
MemberStands ws i (members.Port x) = PortStands ws i x
MemberStands ws i (members.Timer x) = TimerStands ws i x
MemberStands ws i (members.Action x) = ActionStands ws i x
MemberStands ws i (members.State x) = Unit {0}
MemberStands ws i (members.Preamble x) = Unit {0}
MemberStands ws i (members.Reaction x) = ReactionStands ws i x
MemberStands ws i (members.Instance x) = InstanceStands ws i x
MemberStands ws i (members.Connection x) = ConnectionStands ws i x

-- these tokens spell the member, and its parts stand where they say
abbrev pub member : List Lexeme → ℕ → ℕ → Member → Type 0
member ws i j x = Grammar.member ws i j (member_view x) × MemberStands ws i x

-- ---- reactors and files

-- the place of a reactor's name: `reactor` or `main reactor` stands before it. Without a name it is that of `main`
abbrev pub HeadStands : List Lexeme → ℕ → ℕ → Bool → Option (List ℕ) → Type 0
HeadStands ws i at false (Some name) = NameStands ws (i + 1) at name
HeadStands ws i at true (Some name) = NameStands ws (i + 2) at name
HeadStands ws i at _ None = at ≡ i

-- the token behind it
abbrev pub past_head : ℕ → Bool → Option (List ℕ) → ℕ
past_head i false name = i + 2
past_head i true None = i + 2
past_head i true (Some name) = i + 3

-- the place of a parameter is its name
abbrev pub ParameterStands : List Lexeme → ℕ → Parameter → Type 0
ParameterStands ws i x = NameStands ws i x.at (string_bytes x.name)

-- parameters stand in parentheses; without these there are none
abbrev pub ParametersStand : List Lexeme → ℕ → List Parameter → Type 0
ParametersStand ws i xs = (is (Symbol 40) (slice_get ws i) ≡ true → StandInRow (ParameterStands ws) (parameter_tokens ws) (i + 1) xs) × (is (Symbol 40) (slice_get ws i) ≡ false → xs ≡ [])

-- the token behind them
abbrev pub past_parameters : List Lexeme → ℕ → List Parameter → ℕ
past_parameters ws i xs = if is (Symbol 40) (slice_get ws i) then i + row_tokens (parameter_tokens ws) xs + 2 else i

-- the members stand one behind the other between braces
abbrev pub BodyStands : List Lexeme → ℕ → ℕ → List Member → Type 0
BodyStands ws i j xs = (end : ℕ) × (j ≡ end + 1) × many member ws (i + 1) end xs

-- the parts of the reactor stand where they say, if it begins at the token i and ends before j
abbrev pub ReactorStands : List Lexeme → ℕ → ℕ → Reactor → Type 0
ReactorStands ws i j x =
    HeadStands ws i x.at x.is_main (option_map string_bytes x.name) × ParametersStand ws (past_head i x.is_main (option_map string_bytes x.name)) x.parameters.items
    × BodyStands ws (past_parameters ws (past_head i x.is_main (option_map string_bytes x.name)) x.parameters.items) j x.members.items

-- these tokens are those of the preamble, or the parts of the reactor stand where they say
abbrev pub item : List Lexeme → ℕ → ℕ → Item → Type 0
item ws i j (items.Preamble x) = range_view x ≡ (i, j)
item ws i j (items.Reactor x) = ReactorStands ws i j x

-- the first token behind the target
abbrev pub past_target : ℕ → Option TokenRange → ℕ
past_target i None = i
past_target i (Some x) = x.end

-- the items stand one behind the other behind the target, up to the end of the text
abbrev pub FileStands : List Lexeme → Option TokenRange → List Item → Type 0
FileStands ws target xs = many item ws (past_target 0 target) (length ws) xs
