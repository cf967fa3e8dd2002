-- The grammar of whole texts: each production, and the part of the tree that it reads. A comment above one
-- has it as grammars are written: [ ] may be left out, { } is read over and over, | has what is tried in order.
use Rattle.std.specs.Prelude.{ℕ, ◌+◌, ◌-◌, List, [], ◌∷◌, codes, nat_lt, Option, Some, None, Result, Ok, Err, Bool, true, false, not, ◌&&◌, ◌==◌, if◌then◌else◌}
use Rattle.lft_tree.specs.declared.tree.TimeUnit.{TimeUnit}
use Rattle.lft_whole.specs.declared.fault.TreeFault.{TreeFault}
use Rattle.lft_whole.specs.Parts.Lexeme.{Source, see, letters_in, is_word}
use Rattle.lft_whole.specs.Parts.Language.{Reader, ◌>>=◌, Test, on, sign, word, next, ◌and◌, ◌or◌, isnt, token, one, symbol, key, this, flag, repeat, ◌&◌, ◌>>◌, ◌<<◌, ◌then◌, nothing, made, made_at, ignored, choice, optional, passed, passing, separated, listed, opened, group, past_group}
use Rattle.lft_whole.specs.Parts.Tree.{NameTree, ReferenceTree, ValueTree, NumberValue, WordValue, CodeValue, OtherValue, ExpressionTree, CountTree, NumberCount, WordCount, WidthOf, CodeCount, OpenCount, TermTree, EffectTree, ToMode, ToReference}
use Rattle.lft_syntax.specs.{Lexeme.{Lexeme, Code, Text, Letters, Number, Decimal, Arrow, TildeArrow, is, name_in, unit_in, number_in}, Language.look}

-- ---- names

-- the name of these letters at this place
abbrev pub name_of : ℕ → List ℕ → NameTree
name_of i letters = record { text = letters; at = i }

-- NAME: a word that isn't reserved
unfoldable pub name : Reader NameTree
name = made_at name_of (token name_in)

-- ---- types

-- what goes on with a name: . or ::
abbrev pub on_part : Test
on_part = sign 46 or sign 58 and next (sign 58)

-- "." NAME | ":" ":" NAME
unfoldable pub type_part : Reader (Unit {0})
type_part = choice (sign 46) (symbol 46 >> ignored name) (symbol 58 >> symbol 58 >> ignored name)

-- {type_part}
unfoldable pub type_parts : Reader (Unit {0})
type_parts = passing on_part type_part

-- NAME {type_part}
unfoldable pub joined_names : Reader (Unit {0})
joined_names = ignored name >> type_parts

-- * or &
abbrev pub on_sign : Test
on_sign = sign 42 or sign 38

-- {"*" | "&"}
unfoldable pub signs : Reader (Unit {0})
signs = passing on_sign this

-- CODE | joined_names [group of < >] signs
unfoldable pub plain_type : Reader (Unit {0})
plain_type = choice (on (is Code)) (one (on (is Code))) (joined_names >> past_group 60 62 >> signs)

-- in a record type: how many are open, one in the other, and whether a type stands before the place
abbrev pub InRecord : Type 0
InRecord = ℕ × Bool

-- "{" | plain_type
unfoldable pub field_type : ℕ → Reader InRecord
field_type depth = choice (sign 123) (this >> nothing (depth + 1, false)) (plain_type >> nothing (depth, true))

-- WORD ["?"] ":" field_type
unfoldable pub field : ℕ → Reader InRecord
field depth = one (on is_word) >> flag (sign 63) >> symbol 58 >> field_type depth

-- "}"
unfoldable pub record_end : ℕ → Reader InRecord
record_end depth = symbol 125 >> nothing (depth - 1, true)

-- group of [ ] | "|" field_type | "," | ";" | "}"
unfoldable pub behind_type : ℕ → Reader InRecord
behind_type depth =
    choice (sign 91) (group 91 93 >> nothing (depth, true)) (choice (sign 124) (this >> field_type depth)
    (choice (sign 44 or sign 59) (this >> nothing (depth, false)) (record_end depth)))

-- behind a type what goes on with it or ends it, else "}" | field
unfoldable pub record_step : InRecord → Reader InRecord
record_step r = if r.1 then behind_type r.0 else choice (sign 125) (record_end r.0) (field r.0)

-- some record type is open
abbrev pub is_open : ℕ → Bool
is_open depth = not (depth == 0)

-- {record_step}, up to the "}" of the outermost
unfoldable pub record_rest : Reader (Unit {0})
record_rest = ignored (repeat (λ r _ _. is_open r.0) record_step (1, false))

-- "{" record_rest | plain_type
unfoldable pub element : Reader (Unit {0})
element = choice (sign 123) (symbol 123 >> record_rest) plain_type

-- {group of [ ]}
unfoldable pub arrays : Reader (Unit {0})
arrays = passing (sign 91) (group 91 93)

-- element arrays
unfoldable pub member_type : Reader (Unit {0})
member_type = element >> arrays

-- {"|" member_type}
unfoldable pub union : Reader (Unit {0})
union = passing (sign 124) (symbol 124 >> member_type)

-- member_type union: whether it is the one word `time`
unfoldable pub one_type : Reader Bool
one_type s i = (member_type >> union) s i >>= λ a. Ok (word (codes "time") s i && (a.1 == i + 1), a.1)

-- [":" one_type]
unfoldable pub typed : Reader (Option Bool)
typed = optional (sign 58) (symbol 58 >> one_type)

-- ---- values

-- an expression of this value at this place
abbrev pub expression_of : ℕ → ValueTree → ExpressionTree
expression_of i v = record { value = v; at = i }

-- code is a value of its own
abbrev pub code_value : Unit {0} → ValueTree
code_value _ = CodeValue

-- a value of which nothing is kept
abbrev pub other_value : Unit {0} → ValueTree
other_value _ = OtherValue

-- a 0 isn't negative
abbrev pub number_value : Bool → ℕ × Option TimeUnit → ValueTree
number_value negative x = NumberValue (negative && nat_lt 0 x.0) x.0 x.1

-- an arrow
abbrev pub on_arrow : Test
on_arrow = on (is Arrow) or on (is TildeArrow)

-- what stands behind the first word of a member
abbrev pub on_follower : Test
on_follower = sign 61 or sign 46 or on_arrow

-- a unit that stands there is read
abbrev pub with_unit : Option TimeUnit → ℕ → Result (Option TimeUnit × ℕ) TreeFault
with_unit None i = Ok (None, i)
with_unit (Some u) i = Ok (Some u, i + 1)

-- [UNIT]: a word that begins a member is none
unfoldable pub unit : Reader (Option TimeUnit)
unit s i = if on_follower s (i + 1) then Ok (None, i) else with_unit (look unit_in (see s i)) i

-- DECIMAL | NUMBER [UNIT]
abbrev pub quantity : Bool → Reader ValueTree
quantity negative = choice (on (is Decimal)) (made other_value this) (made (number_value negative) (token number_in & unit))

-- ["-" | "+"]: whether it is "-"
unfoldable pub minus : Reader Bool
minus s i = Ok (sign 45 s i, if (sign 45 or sign 43) s i then i + 1 else i)

-- minus quantity
unfoldable pub number : Reader ExpressionTree
number = made_at expression_of (minus then quantity)

-- a point with a word behind it
abbrev pub on_path : Test
on_path = sign 46 and next (on is_word)

-- {"." WORD}
unfoldable pub path : Reader (Unit {0})
path = passing on_path (this >> this)

-- a word alone is kept
abbrev pub path_value : List ℕ → Bool → ValueTree
path_value letters alone = if alone then WordValue letters else OtherValue

-- WORD path: a word alone is the value
unfoldable pub word_value : Reader ExpressionTree
word_value s i = (token letters_in << path) s i >>= λ a. Ok (expression_of i (path_value a.0 (a.1 == i + 1)), a.1)

-- CODE | TEXT | word_value | number
unfoldable pub bare_value : Reader ExpressionTree
bare_value =
    choice (on (is Code)) (made_at expression_of (made code_value (one (on (is Code))))) (choice (on (is Text)) (made_at expression_of (made other_value (one (on (is Text)))))
    (choice (on is_word) word_value number))

-- what is between brackets, if it is one bare value alone
abbrev pub sole : ℕ → Result (ExpressionTree × ℕ) TreeFault → Option ExpressionTree
sole end (Ok x) = if x.1 == end then Some x.0 else None
sole end (Err _) = None

-- that value, or else one of which nothing is kept
abbrev pub or_other : ℕ → Option ExpressionTree → ExpressionTree
or_other i None = expression_of i OtherValue
or_other i (Some v) = v

-- a group: of one bare value alone it is that value
unfoldable pub list : ℕ → ℕ → Reader ExpressionTree
list opening closing s i = opened opening closing s i >>= λ a. Ok (or_other i (sole a.1 (bare_value s (i + 1))), a.1 + 1)

-- group of [ ]
unfoldable pub array : Reader ExpressionTree
array = made_at expression_of (made other_value (group 91 93))

-- list of ( ) | list of { } | array | bare_value
unfoldable pub expression : Reader ExpressionTree
expression = choice (sign 40) (list 40 41) (choice (sign 123) (list 123 125) (choice (sign 91) array bare_value))

-- whether what is behind a group begins the right side of a connection
abbrev pub before_arrow : Source → Result (Unit {0} × ℕ) TreeFault → Bool
before_arrow s (Ok x) = (sign 43 or on_arrow) s (x.1 + 1)
before_arrow s (Err _) = false

-- a ( of values, and none of the left side of a connection, as in (a, b)+ -> c
unfoldable pub on_values : Test
on_values s i = sign 40 s i && not (before_arrow s (opened 40 41 s i))

-- ["=" expression | expression in ( ) or { }]
unfoldable pub initial : Reader (Option ExpressionTree)
initial = choice (sign 61) (made Some (symbol 61 >> expression)) (optional (sign 123 or on_values) expression)

-- expression, and what is behind it in a list
unfoldable pub item : Reader ExpressionTree
item = listed 41 expression

-- [item]
unfoldable pub listed_value : Reader (Option ExpressionTree)
listed_value = optional (isnt (sign 41)) item

-- {item} ")"
unfoldable pub rest : Reader (Unit {0})
rest = passing (isnt (sign 41)) item >> symbol 41

-- ["(" [item] [item] {item} ")"]: the first two
unfoldable pub two_values : Reader (Option ExpressionTree × Option ExpressionTree)
two_values = choice on_values (this >> listed_value & listed_value << rest) (nothing (None, None))

-- ---- references

-- a name, or a port of what it names
abbrev pub reference_of : Bool → NameTree × Option NameTree → ReferenceTree
reference_of interleaved x = record { head = x.0; port = x.1; is_interleaved = interleaved }

-- NAME ["." NAME]
unfoldable pub plain_reference : Bool → Reader ReferenceTree
plain_reference interleaved = made (reference_of interleaved) (name & optional (sign 46) (symbol 46 >> name))

-- interleaved(
abbrev pub on_interleaved : Test
on_interleaved = word (codes "interleaved") and next (sign 40)

-- ["as" NAME]
unfoldable pub alias : Reader (Unit {0})
alias = passed (word (codes "as")) (key (codes "as") >> ignored name)

-- "interleaved" "(" plain_reference ")" | plain_reference ["as" NAME]
unfoldable pub reference : Reader ReferenceTree
reference = choice on_interleaved (this >> symbol 40 >> plain_reference true << symbol 41) (plain_reference false << alias)

-- reference {"," reference}
unfoldable pub references : Reader (List ReferenceTree)
references = separated 44 reference

-- reset( or history(
abbrev pub on_mode : Test
on_mode = (word (codes "reset") or word (codes "history")) and next (sign 40)

-- ("reset" | "history") group of ( ) | reference: of a mode its place is kept
unfoldable pub effect : Reader EffectTree
effect = choice on_mode (made_at (λ i _. ToMode i) (this >> group 40 41)) (made ToReference reference)

-- effect {"," effect}
unfoldable pub effects : Reader (List EffectTree)
effects = separated 44 effect

-- ---- widths

-- a term of this count at this place
abbrev pub term_of : ℕ → CountTree → TermTree
term_of i c = record { count = c; at = i }

-- the one term of a width that is open
abbrev pub open_width : ℕ → Unit {0} → List TermTree
open_width i _ = term_of i OpenCount ∷ []

-- widthof(
abbrev pub on_width_of : Test
on_width_of = word (codes "widthof") and next (sign 40)

-- what counts: code, a number, or a word, reserved or not
abbrev pub count_in : Lexeme → Option CountTree
count_in Code = Some CodeCount
count_in (Number n) = Some (NumberCount n)
count_in (Letters letters) = Some (WordCount letters)
count_in _ = None

-- "(" reference ")"
unfoldable pub width_of : Reader CountTree
width_of = made WidthOf (symbol 40 >> reference << symbol 41)

-- "widthof" width_of | CODE | NUMBER | WORD
unfoldable pub count : Reader CountTree
count = choice on_width_of (this >> width_of) (token count_in)

-- count
unfoldable pub term : Reader TermTree
term = made_at term_of count

-- term {"+" term}
unfoldable pub terms : Reader (List TermTree)
terms = separated 43 term

-- ["[" "]" | "[" terms "]"]
unfoldable pub width : Reader (Option (List TermTree))
width = optional (sign 91) (choice (next (sign 93)) (made_at open_width (symbol 91 >> symbol 93)) (symbol 91 >> terms << symbol 93))
