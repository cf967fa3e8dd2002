-- The grammar of whole texts: each production, and the part of the tree that it reads. A comment above one
-- has it as grammars are written: [ ] may be left out, { } is read over and over, | has what is tried in order.
use Rattle.std.specs.Prelude.{ℕ, zero, ◌+◌, ◌-◌, List, [], ◌∷◌, ◌++◌, codes, slice_get, Option, Some, None, Ok, Err, Bool, true, false, ◌||◌, ◌==◌}
use Rattle.lft_syntax.specs.{declared.token.Token.Token, Lexeme.{Code, Arrow, TildeArrow, is, is_there}}
use Rattle.lft_whole.specs.declared.fault.TreeFault.TheVariants.{Unexpected}
use Rattle.lft_whole.specs.Parts.Lexeme.{is_word}
use Rattle.lft_whole.specs.Parts.Language.{Reader, ◌>>=◌, Test, on, sign, word, next, ◌and◌, ◌or◌, isnt, one, symbol, key, this, flag, ◌&◌, ◌>>◌, ◌<<◌, ◌then◌, nothing, made, made_at, ignored, needed, choice, optional, passed, repeat, passing, separated, closed, group, past_group}
use Rattle.lft_whole.specs.Parts.Parts.{on_arrow, name, typed, expression, initial, two_values, on_interleaved, reference, references, effects, width}
use Rattle.lft_whole.specs.Parts.Tree.{NameTree, ReferenceTree, ValueTree, NumberValue, ExpressionTree, TermTree, ParameterTree, PortTree, TimerTree, ActionTree, TriggerTree, AtStartup, AtShutdown, AtReset, OnReference, EffectTree, ReactionTree, AssignmentTree, InstanceTree, ConnectionTree, MemberTree, PortMember, TimerMember, ActionMember, ReactionMember, InstanceMember, ConnectionMember, ForeignMember, ReactorTree}
use Rattle.lft_whole.specs.declared.tree.Foreign.TheVariants as foreigns

-- ---- ports, timers, actions

-- a port of this direction, width and name
abbrev pub port_tree_of : (Bool × Option (List TermTree)) × NameTree → PortTree
port_tree_of x = record { name = x.1; is_input = x.0.0; width = x.0.1 }

-- "input" | "output"
unfoldable pub direction : Reader Bool
direction = choice (word (codes "input")) (made (λ _. true) (key (codes "input"))) (made (λ _. false) (key (codes "output")))

-- ["mutable"] direction [width] NAME [":" type]
unfoldable pub port : Reader PortTree
port = made port_tree_of (flag (word (codes "mutable")) >> (direction & width & name << typed))

-- a timer of this name and these two values
abbrev pub timer_tree_of : NameTree × (Option ExpressionTree × Option ExpressionTree) → TimerTree
timer_tree_of x = record { name = x.0; offset = x.1.0; period = x.1.1 }

-- "timer" NAME [two_values]
unfoldable pub timer : Reader TimerTree
timer = made timer_tree_of (key (codes "timer") >> name & two_values)

-- an action of this origin, name and these two values
abbrev pub action_tree_of : (Bool × NameTree) × (Option ExpressionTree × Option ExpressionTree) → ActionTree
action_tree_of x = record { name = x.0.1; is_physical = x.0.0; min_delay = x.1.0; spacing = x.1.1 }

-- "physical" | "logical"
unfoldable pub origin : Reader Bool
origin = choice (word (codes "physical")) (made (λ _. true) (key (codes "physical"))) (made (λ _. false) (key (codes "logical")))

-- origin "action" NAME [two_values] [":" type]
unfoldable pub action : Reader ActionTree
action = made action_tree_of (origin << key (codes "action") & name & two_values << typed)

-- ---- what has no part in the tree

-- a word that says how far a preamble is seen
abbrev pub on_scope : Test
on_scope = word (codes "private") or word (codes "public")

-- the first word of a preamble
abbrev pub on_preamble : Test
on_preamble = on_scope or word (codes "preamble")

-- ["private" | "public"] "preamble" CODE
unfoldable pub preamble : Reader (Unit {0})
preamble = flag on_scope >> key (codes "preamble") >> one (on (is Code))

-- ["reset"] "state" NAME [":" type] [initial]
unfoldable pub state : Reader (Unit {0})
state = flag (word (codes "reset")) >> key (codes "state") >> ignored name >> typed >> ignored initial

-- ["const"] "method" NAME group of ( ) [":" type] CODE
unfoldable pub method : Reader (Unit {0})
method = flag (word (codes "const")) >> key (codes "method") >> ignored name >> group 40 41 >> typed >> one (on (is Code))

-- ---- reactions

-- a word that stands for itself, and not for a port of what it names
abbrev pub on_alone : List ℕ → Test
on_alone letters = word letters and isnt (next (sign 46))

-- "startup" | "shutdown" | "reset" | reference
unfoldable pub trigger : Reader TriggerTree
trigger =
    choice (on_alone (codes "startup")) (this >> nothing AtStartup) (choice (on_alone (codes "shutdown")) (this >> nothing AtShutdown) (choice (on_alone (codes "reset")) (made_at (λ i _. AtReset i) this)
    (made OnReference reference)))

-- [trigger {"," trigger} [","]] ")"
unfoldable pub triggers : Reader (List TriggerTree)
triggers = closed 41 trigger

-- a word that begins a declaration
abbrev pub on_declaring : Test
on_declaring = word (codes "input") or word (codes "output") or word (codes "mutable") or word (codes "timer") or word (codes "logical") or word (codes "physical") or word (codes "action") or word (codes "state") or word (codes "reset")

-- a word that begins a member with code, or a mode
abbrev pub on_coded : Test
on_coded = on_preamble or word (codes "method") or word (codes "const") or word (codes "reaction") or word (codes "mutation") or word (codes "mode") or word (codes "initial") or word (codes "watchdog")

-- a handler of late events
abbrev pub on_handler : Test
on_handler = word (codes "deadline") or word (codes "STP") or word (codes "STAA") or word (codes "tardy") or word (codes "maxwait")

-- a word that no declaration, no code and no handler begins with, and that no `=` follows
abbrev pub on_use : Test
on_use = on is_word and isnt (on_declaring or on_coded or on_handler) and isnt (next (sign 61))

-- [references]
unfoldable pub uses : Reader (List ReferenceTree)
uses = choice on_use references (nothing [])

-- ["->" effects]
unfoldable pub written : Reader (List EffectTree)
written = choice (on (is Arrow)) (this >> effects) (nothing [])

-- handler [group of ( )] [CODE]
unfoldable pub handler : Reader (Unit {0})
handler = this >> past_group 40 41 >> ignored (flag (on (is Code)))

-- {handler}
unfoldable pub handlers : Reader (Unit {0})
handlers = passing on_handler handler

-- [NAME]
unfoldable pub own_name : Reader (Unit {0})
own_name = passed (on is_word) (ignored name)

-- a reaction at this place, of these triggers, uses and effects
abbrev pub reaction_tree_of : ℕ → (List TriggerTree × List ReferenceTree) × List EffectTree → ReactionTree
reaction_tree_of i x = record { triggers = x.0.0; uses = x.0.1; effects = x.1; at = i }

-- WORD [NAME] "(" triggers [references] ["->" effects] [CODE] {handler}
unfoldable pub reaction : List ℕ → Reader ReactionTree
reaction letters = made_at reaction_tree_of (key letters >> own_name >> symbol 40 >> triggers & uses & written << flag (on (is Code)) << handlers)

-- "watchdog" NAME group of ( ) ["->" effects] CODE
unfoldable pub watchdog : Reader (Unit {0})
watchdog = key (codes "watchdog") >> ignored name >> group 40 41 >> written >> one (on (is Code))

-- ---- instances

-- this value for the parameter of this name
abbrev pub assignment_tree_of : NameTree × ExpressionTree → AssignmentTree
assignment_tree_of x = record { name = x.0; value = x.1 }

-- NAME initial
unfoldable pub assignment : Reader AssignmentTree
assignment = made assignment_tree_of (name & needed initial)

-- [assignment {"," assignment} [","]] ")"
unfoldable pub assignments : Reader (List AssignmentTree)
assignments = closed 41 assignment

-- one token ends where the other begins
abbrev pub touch : Option Token → Option Token → Bool
touch (Some before) (Some t) = before.end == t.start
touch _ _ = false

-- the token touches the one before it
abbrev pub on_joined : Test
on_joined s i = touch (slice_get s.tokens (i - 1)) (slice_get s.tokens i)

-- a token that goes on with a host
abbrev pub on_host : Test
on_host = on_joined and isnt (sign 123) and isnt (sign 59)

-- {TOKEN}, without a gap before each
unfoldable pub host_rest : Reader (Unit {0})
host_rest = passing on_host this

-- ["at" TOKEN host_rest]: a host is tokens without a gap
unfoldable pub host : Reader (Unit {0})
host = passed (word (codes "at")) (key (codes "at") >> flag (on is_there) >> host_rest)

-- an instance of this name, width, reactor and these assignments
abbrev pub instance_tree_of : Bool → ((NameTree × Option (List TermTree)) × NameTree) × List AssignmentTree → InstanceTree
instance_tree_of enclave x = record { name = x.0.0.0; width = x.0.0.1; reactor = x.0.1; given = x.1; is_enclave = enclave }

-- NAME "=" "new" [width] NAME [group of < >] "(" assignments [host]
unfoldable pub instance : Bool → Reader InstanceTree
instance enclave = made (instance_tree_of enclave) (name << symbol 61 << key (codes "new") & width & name << past_group 60 62 << symbol 40 & assignments << host)

-- ---- connections

-- . or , or an arrow
abbrev pub on_rest : Test
on_rest = sign 46 or sign 44 or on_arrow

-- a word and . or , or an arrow; or a ( ; or `interleaved(`
abbrev pub on_connection : Test
on_connection = sign 40 or on is_word and next on_rest or on_interleaved

-- references | "(" references ")" ["+"]
unfoldable pub left_side : Reader (List ReferenceTree × Bool)
left_side = choice (sign 40) (symbol 40 >> references << symbol 41 & flag (sign 43)) (made (λ r. (r, false)) references)

-- "~>" | "->": whether it is "~>"
unfoldable pub arrow : Reader Bool
arrow = choice (on (is TildeArrow)) (this >> nothing true) (made (λ _. false) (one (on (is Arrow))))

-- ["after" expression]
unfoldable pub delay : Reader (Option ExpressionTree)
delay = optional (word (codes "after")) (key (codes "after") >> expression)

-- ["serializer" [TOKEN]]
unfoldable pub serializer : Reader (Unit {0})
serializer = passed (word (codes "serializer")) (key (codes "serializer") >> ignored (flag (on is_there)))

-- a connection that begins at this place, of these two sides, this arrow and this delay
abbrev pub connection_tree_of : ℕ → (((List ReferenceTree × Bool) × (ℕ × Bool)) × List ReferenceTree) × Option ExpressionTree → ConnectionTree
connection_tree_of i x = record { sources = x.0.0.0.0; is_broadcast = x.0.0.0.1; is_physical = x.0.0.1.1; destinations = x.0.1; delay = x.1; at = i; arrow = x.0.0.1.0 }

-- left_side arrow references [delay] [serializer]
unfoldable pub connection : Reader ConnectionTree
connection = made_at connection_tree_of (left_side & made_at (λ i p. (i, p)) arrow & references & delay << serializer)

-- ---- members

-- WORD: whether it is `enclave`
abbrev pub attribute_name : Reader Bool
attribute_name s i = one (on is_word) s i >>= λ a. Ok (word (codes "enclave") s i, a.1)

-- "@" attribute_name [group of ( )]: whether it is `@enclave`
unfoldable pub attribute : Reader Bool
attribute = symbol 64 >> attribute_name << past_group 40 41

-- one more attribute: whether this one or one before is `@enclave`
unfoldable pub next_attribute : Bool → Reader Bool
next_attribute enclave = made (λ here. here || enclave) attribute

-- {attribute}: whether one is `@enclave`
unfoldable pub attributes : Reader Bool
attributes = repeat (λ _. sign 64) next_attribute false

-- ["initial"] "mode" [NAME] group of { }
unfoldable pub mode : Reader (Unit {0})
mode = flag (word (codes "initial")) >> key (codes "mode") >> passed (isnt (sign 123)) (ignored name) >> group 123 125

-- a word that begins a mode
abbrev pub on_modes : Test
on_modes = word (codes "initial") or word (codes "mode")

-- nothing may stand here
abbrev pub unexpected : {A : Type 0} → Reader A
unexpected s i = Err (Unexpected i)

-- mutation | watchdog | mode
unfoldable pub foreign : Reader MemberTree
foreign =
    choice (word (codes "mutation")) (made_at (λ i _. ForeignMember foreigns.Mutation i) (reaction (codes "mutation"))) (choice (word (codes "watchdog")) (made_at (λ i _. ForeignMember foreigns.Watchdog i) watchdog)
    (choice on_modes (made_at (λ i _. ForeignMember foreigns.Mode i) mode) unexpected))

-- a word that begins a port
abbrev pub on_port : Test
on_port = word (codes "mutable") or word (codes "input") or word (codes "output")

-- a word that begins an action
abbrev pub on_action : Test
on_action = word (codes "logical") or word (codes "physical") or word (codes "action")

-- port | timer | action | reaction | foreign
unfoldable pub declared : Reader MemberTree
declared =
    choice on_port (made PortMember port) (choice (word (codes "timer")) (made TimerMember timer) (choice on_action (made ActionMember action)
    (choice (word (codes "reaction")) (made ReactionMember (reaction (codes "reaction"))) foreign)))

-- a word and =
abbrev pub on_instance : Test
on_instance = on is_word and next (sign 61)

-- instance | connection | declared
unfoldable pub kept : Bool → Reader MemberTree
kept enclave = choice on_instance (made InstanceMember (instance enclave)) (choice on_connection (made ConnectionMember connection) declared)

-- a word that begins a state
abbrev pub on_state : Test
on_state = word (codes "reset") or word (codes "state")

-- a word that begins a method
abbrev pub on_method : Test
on_method = word (codes "const") or word (codes "method")

-- a preamble, state or method, and no instance or connection
abbrev pub on_skipped : Test
on_skipped = (on_preamble or on_state or on_method) and isnt (on_connection or on_instance)

-- preamble | state | method
unfoldable pub skipped : Reader (Unit {0})
skipped = choice on_preamble preamble (choice on_state state method)

-- {attribute} (skipped | kept)
unfoldable pub member : Reader (Option MemberTree)
member = attributes then λ enclave. choice on_skipped (made (λ _. None) skipped) (made Some (kept enclave))

-- members, and one more if there is one
abbrev pub with_member : List MemberTree → Option MemberTree → List MemberTree
with_member ms None = ms
with_member ms (Some m) = ms ++ m ∷ []

-- ";" | member, behind other members
unfoldable pub next_member : List MemberTree → Reader (List MemberTree)
next_member ms = choice (sign 59) (this >> nothing ms) (made (with_member ms) member)

-- {";" | member} "}"
unfoldable pub members : Reader (List MemberTree)
members = repeat (λ _. isnt (sign 125)) next_member [] << symbol 125

-- "{" members
unfoldable pub body : Reader (List MemberTree)
body = symbol 123 >> members

-- ---- reactors

-- whether a value writes a time: it has a unit of time, or it is 0
abbrev pub writes_time : ValueTree → Bool
writes_time (NumberValue _ _ (Some _)) = true
writes_time (NumberValue _ zero None) = true
writes_time _ = false

-- whether there is a value, and it writes a time
abbrev pub has_time : Option ExpressionTree → Bool
has_time None = false
has_time (Some e) = writes_time e.value

-- whether a parameter is a time: by its type, or without a type by its default
abbrev pub is_time : Option Bool → Option ExpressionTree → Bool
is_time (Some by_type) default = by_type
is_time None default = has_time default

-- a parameter of this name, type and default
abbrev pub parameter_tree_of : (NameTree × Option Bool) × Option ExpressionTree → ParameterTree
parameter_tree_of x = record { name = x.0.0; is_time = is_time x.0.1 x.1; default = x.1 }

-- {attribute} NAME [":" type] [initial]
unfoldable pub parameter : Reader ParameterTree
parameter = made parameter_tree_of (attributes >> name & typed & initial)

-- [parameter {"," parameter} [","]] ")"
unfoldable pub parameter_list : Reader (List ParameterTree)
parameter_list = closed 41 parameter

-- ["(" parameter_list]
unfoldable pub parameters : Reader (List ParameterTree)
parameters = choice (sign 40) (symbol 40 >> parameter_list) (nothing [])

-- NAME [group of < >]
unfoldable pub base : Reader NameTree
base = name << past_group 60 62

-- base {"," base}
unfoldable pub base_list : Reader (List NameTree)
base_list = separated 44 base

-- ["extends" base_list]
unfoldable pub bases : Reader (List NameTree)
bases = choice (word (codes "extends")) (key (codes "extends") >> base_list) (nothing [])

-- a word that may stand before `reactor`
abbrev pub on_kind : Test
on_kind = word (codes "main") or word (codes "federated") or word (codes "realtime")

-- the first word of a reactor
abbrev pub on_reactor : Test
on_reactor = on_kind or word (codes "reactor")

-- one more word before `reactor`: whether `main`, and whether `federated` stands there
abbrev pub kind_word : Bool × Bool → Reader (Bool × Bool)
kind_word k s i = Ok ((word (codes "main") s i || k.0, word (codes "federated") s i || k.1), i + 1)

-- {"main" | "federated" | "realtime"}
unfoldable pub kind_words : Reader (Bool × Bool)
kind_words = repeat (λ _. on_kind) kind_word (false, false)

-- a federated reactor is a main one
unfoldable pub kind : Reader (Bool × Bool)
kind = made (λ k. (k.0 || k.1, k.1)) kind_words

-- a word that is the name of a reactor
abbrev pub on_own_name : Test
on_own_name = on is_word and isnt (word (codes "at")) and isnt (word (codes "extends"))

-- [NAME]
unfoldable pub reactor_name : Reader (Option NameTree)
reactor_name = optional on_own_name name

-- a reactor that begins at this place, of these parts
abbrev pub reactor_tree_of : ℕ → ((((Bool × Bool) × Option NameTree) × List ParameterTree) × List NameTree) × List MemberTree → ReactorTree
reactor_tree_of i x = record { is_main = x.0.0.0.0.0; is_federated = x.0.0.0.0.1; name = x.0.0.0.1; parameters = x.0.0.1; bases = x.0.1; members = x.1; at = i }

-- kind "reactor" [NAME] [group of < >] [parameters] ["at" host] [bases] body
unfoldable pub reactor : Reader ReactorTree
reactor = made_at reactor_tree_of (kind << key (codes "reactor") & reactor_name << past_group 60 62 & parameters << host & bases & body)
