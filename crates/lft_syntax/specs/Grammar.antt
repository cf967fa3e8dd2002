-- The grammar: each production, and the part of the tree that its tokens spell.
--
-- A name after a number may be its unit or suffix, or begin the next member. The grammar leaves one of
-- the two: what begins a member with a name has =, . or , or -> as its second token, and none of
-- these stands after a unit or a suffix.
use Rattle.std.specs.Prelude.{ℕ, List, [], ◌∷◌, ◌++◌, codes, length, Bool, true, false, Option, Some, None}
use Rattle.lft_tree.specs.declared.tree.{Time.Time, TimeUnit.TimeUnit}
use Rattle.lft_tree.specs.Tree.{Range, TimeTree, Written, Named, RefTree, ParameterTree, PortTree, TimerTree, ActionTree, TriggerTree, AtStartup, AtShutdown, OnRef, ReactionTree, AssignmentTree, InstanceTree, ConnectionTree, MemberTree, PortMember, TimerMember, ActionMember, StateMember, PreambleMember, ReactionMember, InstanceMember, ConnectionMember, ReactorTree, ItemTree, PreambleItem, ReactorItem, FileTree}
use Rattle.lft_syntax.specs.Lexeme.{Lexeme, Code, Text, Letters, Number, Arrow, Symbol, name_in, number_in, unit_in}
use Rattle.lft_syntax.specs.Language.{Spelling, token, one, ◌&◌, ◌>>◌, ◌<<◌, ◌or◌, optional, many, made, ignored, range, group}

-- ---- tokens: a reserved word, a sign by its byte, a name, a number, a unit of time

abbrev pub key : List ℕ → Spelling (Unit {0})
key word = one (Letters word)

abbrev pub symbol : ℕ → Spelling (Unit {0})
symbol byte = one (Symbol byte)

abbrev pub name : Spelling (List ℕ)
name = token name_in

abbrev pub number : Spelling ℕ
number = token number_in

abbrev pub unit : Spelling TimeUnit
unit = token unit_in

-- ---- groups of { }, of [ ] and of ( ), and lists

abbrev pub braces : Spelling (Unit {0})
braces = group (Symbol 123) (Symbol 125)

abbrev pub brackets : Spelling (Unit {0})
brackets = group (Symbol 91) (Symbol 93)

abbrev pub parentheses : Spelling (Unit {0})
parentheses = group (Symbol 40) (Symbol 41)

-- the list of a first value and others
abbrev pub with_first : {A : Type 0} → A × List A → List A
with_first x = x.0 ∷ x.1

-- a list that may be left out
abbrev pub or_empty : {A : Type 0} → Option (List A) → List A
or_empty None = []
or_empty (Some xs) = xs

-- P {"," P}
abbrev pub listed : {A : Type 0} → Spelling A → Spelling (List A)
listed P = made with_first (P & many (symbol 44 >> P))

-- "(" [P] ")"
abbrev pub enclosed : {A : Type 0} → Spelling A → Spelling (Option A)
enclosed P = symbol 40 >> optional P << symbol 41

-- ---- each part of the tree, made of the values of its production

abbrev pub counted : ℕ × TimeUnit → Time
counted x = record { count = x.0; unit = Some x.1 }

abbrev pub zero_time : Unit {0} → Time
zero_time _ = record { count = 0; unit = None }

abbrev pub ref_of : List ℕ × Option (List ℕ) → RefTree
ref_of x = record { head = x.0; port = x.1 }

abbrev pub parameter_of : List ℕ × Time → ParameterTree
parameter_of x = record { name = x.0; default = x.1 }

abbrev pub input_of : List ℕ → PortTree
input_of n = record { name = n; is_input = true }

abbrev pub output_of : List ℕ → PortTree
output_of n = record { name = n; is_input = false }

abbrev pub timer_of : List ℕ × Option (Option (TimeTree × Option TimeTree)) → TimerTree
timer_of (n, None) = record { name = n; offset = None; period = None }
timer_of (n, Some None) = record { name = n; offset = None; period = None }
timer_of (n, Some (Some (o, p))) = record { name = n; offset = Some o; period = p }

abbrev pub logical_is : Unit {0} → Bool
logical_is _ = false

abbrev pub physical_is : Unit {0} → Bool
physical_is _ = true

abbrev pub flat : {A : Type 0} → Option (Option A) → Option A
flat None = None
flat (Some x) = x

abbrev pub action_of : (Bool × List ℕ) × Option (Option TimeTree) → ActionTree
action_of x = record { name = x.0.1; is_physical = x.0.0; min_delay = flat x.1 }

abbrev pub startup_of : Unit {0} → TriggerTree
startup_of _ = AtStartup

abbrev pub shutdown_of : Unit {0} → TriggerTree
shutdown_of _ = AtShutdown

abbrev pub reaction_of : (List TriggerTree × Option (List RefTree)) × Option (List RefTree) → ReactionTree
reaction_of x = record { triggers = x.0.0; uses = or_empty x.0.1; effects = or_empty x.1 }

abbrev pub assignment_of : List ℕ × TimeTree → AssignmentTree
assignment_of x = record { name = x.0; value = x.1 }

abbrev pub instance_of : (List ℕ × List ℕ) × List AssignmentTree → InstanceTree
instance_of x = record { name = x.0.0; reactor = x.0.1; given = x.1 }

abbrev pub connection_of : (List RefTree × List RefTree) × Option TimeTree → ConnectionTree
connection_of x = record { sources = x.0.0; destinations = x.0.1; delay = x.1 }

abbrev pub reactor_of : (List ℕ × Option (List ParameterTree)) × List MemberTree → ReactorTree
reactor_of x = record { is_main = false; name = Some x.0.0; parameters = or_empty x.0.1; members = x.1 }

abbrev pub main_of : (Option (List ℕ) × Option (List ParameterTree)) × List MemberTree → ReactorTree
main_of x = record { is_main = true; name = x.0.0; parameters = or_empty x.0.1; members = x.1 }

abbrev pub file_of : Option Range × List ItemTree → FileTree
file_of x = record { target = x.0; items = x.1 }

-- ---- the productions

-- NUMBER UNIT | NUMBER whose value is 0
abbrev pub time : Spelling Time
time = made counted (number & unit) or made zero_time (one (Number 0))

-- time | NAME
abbrev pub ptime : Spelling TimeTree
ptime = made Written time or made Named name

-- NAME ["." NAME]
abbrev pub ref : Spelling RefTree
ref = made ref_of (name & optional (symbol 46 >> name))

-- ref {"," ref}
abbrev pub refs : Spelling (List RefTree)
refs = listed ref

-- CODE | NAME {"." NAME | ":" ":" NAME} {"*"} {"[" [NUMBER] "]"}
abbrev pub type_part : Spelling (Unit {0})
type_part = symbol 46 >> ignored name or symbol 58 >> symbol 58 >> ignored name

abbrev pub array_part : Spelling (Unit {0})
array_part = symbol 91 >> ignored (optional number) >> symbol 93

abbrev pub type : Spelling (Unit {0})
type = one Code or ignored name >> ignored (many type_part) >> ignored (many (symbol 42)) >> ignored (many array_part)

-- [":" type]
abbrev pub typed : Spelling (Unit {0})
typed = ignored (optional (symbol 58 >> type))

-- ["-"] NUMBER ["." NUMBER] [NAME [("+" | "-") NUMBER]]
abbrev pub suffix : Spelling (Unit {0})
suffix = ignored name >> ignored (optional (symbol 43 >> ignored number or symbol 45 >> ignored number))

abbrev pub quantity : Spelling (Unit {0})
quantity = ignored (optional (symbol 45)) >> ignored number >> ignored (optional (symbol 46 >> ignored number)) >> ignored (optional suffix)

-- CODE | STRING | group of { } | group of [ ] | group of ( ) | NAME {"." NAME} | a quantity
abbrev pub value : Spelling (Unit {0})
value = one Code or one Text or braces or brackets or parentheses or ignored name >> ignored (many (symbol 46 >> ignored name)) or quantity

-- NAME ":" "time" ("=" time | "(" time ")")
abbrev pub param : Spelling ParameterTree
param = made parameter_of (name << symbol 58 << key (codes "time") & (symbol 61 >> time or symbol 40 >> time << symbol 41))

-- "(" [param {"," param}] ")"
abbrev pub params : Spelling (List ParameterTree)
params = made or_empty (enclosed (listed param))

-- ["mutable"] "input" NAME [":" type] | "output" NAME [":" type]
abbrev pub port : Spelling PortTree
port = made input_of (ignored (optional (key (codes "mutable"))) >> key (codes "input") >> name << typed) or made output_of (key (codes "output") >> name << typed)

-- "timer" NAME ["(" [ptime ["," ptime]] ")"]
abbrev pub timer : Spelling TimerTree
timer = made timer_of (key (codes "timer") >> name & optional (enclosed (ptime & optional (symbol 44 >> ptime))))

-- ("logical" | "physical") "action" NAME ["(" [ptime] ")"] [":" type]
abbrev pub action : Spelling ActionTree
action = made action_of ((made logical_is (key (codes "logical")) or made physical_is (key (codes "physical"))) << key (codes "action") & name & optional (enclosed ptime) << typed)

-- "state" NAME [":" type] ["=" value | group of ( ) | group of { }]
abbrev pub state : Spelling Range
state = range (key (codes "state") >> ignored name >> typed >> ignored (optional (symbol 61 >> value or parentheses or braces)))

-- ["private" | "public"] "preamble" CODE
abbrev pub preamble : Spelling Range
preamble = range (ignored (optional (key (codes "private") or key (codes "public"))) >> key (codes "preamble") >> one Code)

-- "startup" | "shutdown" | ref
abbrev pub trigger : Spelling TriggerTree
trigger = made startup_of (key (codes "startup")) or made shutdown_of (key (codes "shutdown")) or made OnRef ref

-- "reaction" [NAME] "(" [trigger {"," trigger}] ")" [refs] ["->" refs] CODE
abbrev pub reaction : Spelling ReactionTree
reaction = made reaction_of (key (codes "reaction") >> ignored (optional name) >> made or_empty (enclosed (listed trigger)) & optional refs & optional (one Arrow >> refs) << one Code)

-- NAME ("=" ptime | "(" ptime ")")
abbrev pub assign : Spelling AssignmentTree
assign = made assignment_of (name & (symbol 61 >> ptime or symbol 40 >> ptime << symbol 41))

-- NAME "=" "new" NAME "(" [assign {"," assign}] ")"
abbrev pub instance : Spelling InstanceTree
instance = made instance_of (name << symbol 61 << key (codes "new") & name & made or_empty (enclosed (listed assign)))

-- refs "->" refs ["after" ptime]
abbrev pub connection : Spelling ConnectionTree
connection = made connection_of (refs << one Arrow & refs & optional (key (codes "after") >> ptime))

-- port | timer | action | state | preamble | reaction | instance | connection
abbrev pub member : Spelling MemberTree
member = made PortMember port or made TimerMember timer or made ActionMember action or made StateMember state or made PreambleMember preamble
    or made ReactionMember reaction or made InstanceMember instance or made ConnectionMember connection

-- "{" {member} "}"
abbrev pub body : Spelling (List MemberTree)
body = symbol 123 >> many member << symbol 125

-- "reactor" NAME [params] body | "main" "reactor" [NAME] [params] body
abbrev pub reactor : Spelling ReactorTree
reactor = made reactor_of (key (codes "reactor") >> name & optional params & body) or made main_of (key (codes "main") >> key (codes "reactor") >> optional name & optional params & body)

-- "target" NAME [group of { }]
abbrev pub target : Spelling Range
target = range (key (codes "target") >> ignored name >> ignored (optional braces))

-- preamble | reactor
abbrev pub item : Spelling ItemTree
item = made PreambleItem preamble or made ReactorItem reactor

-- [target] {item}
abbrev pub file : Spelling FileTree
file = made file_of (optional target & many item)

-- the tokens are those of the tree
abbrev pub Spells : FileTree → List Lexeme → Type 0
Spells tree ws = file ws 0 (length ws) tree

-- other tokens can stand behind these so that a tree is spelled
abbrev pub BeginsTree : List Lexeme → Type 0
BeginsTree ws = (rest : List Lexeme) × (tree : FileTree) × Spells tree (ws ++ rest)

-- a tree can begin with these tokens and this one behind them
abbrev pub CanFollow : List Lexeme → Lexeme → Type 0
CanFollow ws w = BeginsTree (ws ++ (w ∷ []))
