-- Reading from left to right: a value and the place after it, or the place of the first token that doesn't fit.
-- These are for the parser's own proofs. No public contract names them; the grammar is what a tree is.
use Rattle.std.specs.Prelude.{ℕ, zero, suc, ◌+◌, List, [], ◌∷◌, ◌++◌, codes, length, slice_get, Option, Some, None, Result, Ok, Err, Bool, nat_eq, ◌||◌, if◌then◌else◌}
use Rattle.lft_tree.specs.declared.tree.{Time.Time, TimeUnit.TimeUnit}
use Rattle.lft_tree.specs.Tree.{Range, TimeTree, Written, Named, RefTree, ParameterTree, PortTree, TimerTree, ActionTree, TriggerTree, OnRef, ReactionTree, AssignmentTree, InstanceTree, ConnectionTree, MemberTree, PortMember, TimerMember, ActionMember, StateMember, PreambleMember, ReactionMember, InstanceMember, ConnectionMember, ReactorTree, ItemTree, PreambleItem, ReactorItem, FileTree}
use Rattle.lft_syntax.specs.Lexeme.{Lexeme, Code, Text, Letters, Arrow, Symbol, is, is_there, same, negated, is_name, name_in, number_in, unit_in}
use Rattle.lft_syntax.specs.inner.Tests.{is_number, is_word_of, is_follower, input_keys, port_keys, action_keys, scope_keys, preamble_keys}
use Rattle.lft_syntax.specs.Language.{look, this}
use Rattle.lft_syntax.specs.Grammar.{or_empty, counted, zero_time, ref_of, parameter_of, input_of, output_of, timer_of, logical_is, physical_is, action_of, startup_of, shutdown_of, reaction_of, assignment_of, instance_of, connection_of, reactor_of, main_of, file_of}

abbrev pub Reading : Type 0 → Type 0
Reading A = List Lexeme → ℕ → Result (A × ℕ) ℕ

infixl 10 ◌>>=◌
abbrev pub ◌>>=◌ : {A B : Type 0} → Result A ℕ → (A → Result B ℕ) → Result B ℕ
(Ok x) >>= f = f x
(Err e) >>= f = Err e

-- ---- the words

abbrev pub seen_at : {A : Type 0} → ℕ → Option A → Result (A × ℕ) ℕ
seen_at i None = Err i
seen_at i (Some x) = Ok (x, i + 1)

abbrev pub token_at : {A : Type 0} → (Lexeme → Option A) → Reading A
token_at see ws i = seen_at i (look see (slice_get ws i))

abbrev pub one_at : Lexeme → Reading (Unit {0})
one_at w = token_at (this w)

abbrev pub key_at : List ℕ → Reading (Unit {0})
key_at word = one_at (Letters word)

abbrev pub symbol_at : ℕ → Reading (Unit {0})
symbol_at byte = one_at (Symbol byte)

abbrev pub both : {A B : Type 0} → Reading A → Reading B → Reading (A × B)
both p q ws i = p ws i >>= λ a. q ws a.1 >>= λ b. Ok ((a.0, b.0), b.1)

abbrev pub apply : {A B : Type 0} → (A → B) → Reading A → Reading B
apply f p ws i = p ws i >>= λ a. Ok (f a.0, a.1)

abbrev pub ignoring_at : {A : Type 0} → Reading A → Reading (Unit {0})
ignoring_at p = apply (λ _. tt) p

abbrev pub second : {B : Type 0} → Reading (Unit {0}) → Reading B → Reading B
second p q = apply (λ x. x.1) (both p q)

abbrev pub first : {A : Type 0} → Reading A → Reading (Unit {0}) → Reading A
first p q = apply (λ x. x.0) (both p q)

-- what stands there decides
abbrev pub maybe : {A : Type 0} → (Option Lexeme → Bool) → Reading A → Reading (Option A)
maybe go p ws i = if go (slice_get ws i) then (p ws i >>= λ a. Ok (Some a.0, a.1)) else Ok (None, i)

abbrev pub choice : {A : Type 0} → (Option Lexeme → Bool) → Reading A → Reading A → Reading A
choice go p q ws i = if go (slice_get ws i) then p ws i else q ws i

-- the second token decides
abbrev pub choice_next : {A : Type 0} → (Option Lexeme → Bool) → Reading A → Reading A → Reading A
choice_next go p q ws i = if go (slice_get ws (i + 1)) then p ws i else q ws i

-- a name stands there that begins no member
abbrev pub maybe_suffix : {A : Type 0} → Reading A → Reading (Option A)
maybe_suffix p ws i =
    if is_name (slice_get ws i) then (if is_follower (slice_get ws (i + 1)) then Ok (None, i) else (p ws i >>= λ a. Ok (Some a.0, a.1)))
    else Ok (None, i)

-- at most n times
unfoldable pub many_at : {A : Type 0} → (Option Lexeme → Bool) → Reading A → ℕ → Reading (List A)
many_at go p zero ws i = Err i
many_at go p (suc n) ws i = if go (slice_get ws i) then (p ws i >>= λ a. many_at go p n ws a.1 >>= λ b. Ok (a.0 ∷ b.0, b.1)) else Ok ([], i)

abbrev pub repeated : {A : Type 0} → (Option Lexeme → Bool) → Reading A → Reading (List A)
repeated go p ws i = many_at go p (suc (length ws)) ws i

abbrev pub range_at : Reading (Unit {0}) → Reading Range
range_at p ws i = p ws i >>= λ a. Ok ((i, a.1), a.1)

-- ---- lists and groups

-- what was read before, and what is still read
abbrev pub with_front : {A : Type 0} → List A → Result (List A × ℕ) ℕ → Result (List A × ℕ) ℕ
with_front front (Ok x) = Ok (front ++ x.0, x.1)
with_front front (Err e) = Err e

abbrev pub after_comma : {A : Type 0} → Reading A → Reading A
after_comma p = second (symbol_at 44) p

abbrev pub listed_at : {A : Type 0} → Reading A → Reading (List A)
listed_at p ws i = p ws i >>= λ a. with_front (a.0 ∷ []) (repeated (is (Symbol 44)) (after_comma p) ws a.1)

-- not the closing parenthesis
abbrev pub is_open : Option Lexeme → Bool
is_open o = negated (is (Symbol 41) o)

abbrev pub enclosed_at : {A : Type 0} → Reading A → Reading (Option A)
enclosed_at p = first (second (symbol_at 40) (maybe is_open p)) (symbol_at 41)

-- up to the closing bracket, with others open
abbrev pub inside_step : Lexeme → Lexeme → ℕ → ℕ → (ℕ → Result (Unit {0} × ℕ) ℕ) → Option Lexeme → Result (Unit {0} × ℕ) ℕ
inside_step opening closing depth i rest None = Err i
inside_step opening closing zero i rest (Some w) = if same opening w then rest 1 else if same closing w then Ok (tt, i + 1) else rest 0
inside_step opening closing (suc depth) i rest (Some w) = if same opening w then rest (suc (suc depth)) else if same closing w then rest depth else rest (suc depth)

unfoldable pub inside_at : Lexeme → Lexeme → ℕ → ℕ → Reading (Unit {0})
inside_at opening closing zero depth ws i = Err i
inside_at opening closing (suc n) depth ws i = inside_step opening closing depth i (λ d. inside_at opening closing n d ws (i + 1)) (slice_get ws i)

unfoldable pub group_at : Lexeme → Lexeme → Reading (Unit {0})
group_at opening closing ws i = one_at opening ws i >>= λ a. inside_at opening closing (suc (length ws)) 0 ws a.1

abbrev pub braces_at : Reading (Unit {0})
braces_at = group_at (Symbol 123) (Symbol 125)

abbrev pub brackets_at : Reading (Unit {0})
brackets_at = group_at (Symbol 91) (Symbol 93)

abbrev pub parentheses_at : Reading (Unit {0})
parentheses_at = group_at (Symbol 40) (Symbol 41)

-- ---- names, numbers and times

abbrev pub name_at : Reading (List ℕ)
name_at = token_at name_in

abbrev pub number_at : Reading ℕ
number_at = token_at number_in

abbrev pub time_from : ℕ → ℕ → Option TimeUnit → Result (Time × ℕ) ℕ
time_from n i (Some u) = Ok (counted (n, u), i + 1)
time_from n i None = if nat_eq n 0 then Ok (zero_time tt, i) else Err i

-- a time, where no name may stand after it
unfoldable pub time_at : Reading Time
time_at ws i = number_at ws i >>= λ n. time_from n.0 n.1 (look unit_in (slice_get ws n.1))

-- a time, where a member may stand after it
unfoldable pub delay_at : Reading Time
delay_at ws i = number_at ws i >>= λ n.
    if nat_eq n.0 0 then (if is_name (slice_get ws n.1) then (if is_follower (slice_get ws (n.1 + 1)) then Ok (zero_time tt, n.1) else time_from n.0 n.1 (look unit_in (slice_get ws n.1))) else time_from n.0 n.1 (look unit_in (slice_get ws n.1)))
    else time_from n.0 n.1 (look unit_in (slice_get ws n.1))

unfoldable pub ptime_at : Reading TimeTree
ptime_at = choice is_number (apply Written time_at) (apply Named name_at)

unfoldable pub pdelay_at : Reading TimeTree
pdelay_at = choice is_number (apply Written delay_at) (apply Named name_at)

-- ---- references

unfoldable pub ref_at : Reading RefTree
ref_at = apply ref_of (both name_at (maybe (is (Symbol 46)) (second (symbol_at 46) name_at)))

unfoldable pub refs_at : Reading (List RefTree)
refs_at = listed_at ref_at

-- ---- types and values

abbrev pub is_type_part : Option Lexeme → Bool
is_type_part o = is (Symbol 46) o || is (Symbol 58) o

unfoldable pub type_part_at : Reading (Unit {0})
type_part_at = choice (is (Symbol 46)) (second (symbol_at 46) (ignoring_at name_at)) (second (second (symbol_at 58) (symbol_at 58)) (ignoring_at name_at))

unfoldable pub type_parts_at : Reading (List (Unit {0}))
type_parts_at = repeated is_type_part type_part_at

unfoldable pub stars_at : Reading (List (Unit {0}))
stars_at = repeated (is (Symbol 42)) (symbol_at 42)

unfoldable pub array_part_at : Reading (Unit {0})
array_part_at = second (second (symbol_at 91) (ignoring_at (maybe is_number number_at))) (symbol_at 93)

unfoldable pub array_parts_at : Reading (List (Unit {0}))
array_parts_at = repeated (is (Symbol 91)) array_part_at

unfoldable pub type_at : Reading (Unit {0})
type_at = choice (is Code) (one_at Code) (second (second (second (ignoring_at name_at) (ignoring_at type_parts_at)) (ignoring_at stars_at)) (ignoring_at array_parts_at))

unfoldable pub typed_at : Reading (Unit {0})
typed_at = ignoring_at (maybe (is (Symbol 58)) (second (symbol_at 58) type_at))

abbrev pub is_sign : Option Lexeme → Bool
is_sign o = is (Symbol 43) o || is (Symbol 45) o

unfoldable pub signed_at : Reading (Unit {0})
signed_at = choice (is (Symbol 43)) (second (symbol_at 43) (ignoring_at number_at)) (second (symbol_at 45) (ignoring_at number_at))

unfoldable pub suffix_at : Reading (Unit {0})
suffix_at = second (ignoring_at name_at) (ignoring_at (maybe is_sign signed_at))

unfoldable pub quantity_at : Reading (Unit {0})
quantity_at =
    second (second (second (ignoring_at (maybe (is (Symbol 45)) (symbol_at 45))) (ignoring_at number_at))
    (ignoring_at (maybe (is (Symbol 46)) (second (symbol_at 46) (ignoring_at number_at))))) (ignoring_at (maybe_suffix suffix_at))

unfoldable pub dot_name_at : Reading (Unit {0})
dot_name_at = second (symbol_at 46) (ignoring_at name_at)

unfoldable pub dot_names_at : Reading (List (Unit {0}))
dot_names_at = repeated (is (Symbol 46)) dot_name_at

-- names joined by dots
unfoldable pub path_at : Reading (Unit {0})
path_at = second (ignoring_at name_at) (ignoring_at dot_names_at)

unfoldable pub value_at : Reading (Unit {0})
value_at =
    choice (is Code) (one_at Code) (choice (is Text) (one_at Text) (choice (is (Symbol 123)) braces_at (choice (is (Symbol 91)) brackets_at (choice (is (Symbol 40)) parentheses_at
    (choice is_name path_at quantity_at)))))

-- ---- ports, timers, actions, state variables, preambles

unfoldable pub input_at : Reading PortTree
input_at = apply input_of (first (second (second (ignoring_at (maybe (is (Letters (codes "mutable"))) (key_at (codes "mutable")))) (key_at (codes "input"))) name_at) typed_at)

unfoldable pub output_at : Reading PortTree
output_at = apply output_of (first (second (key_at (codes "output")) name_at) typed_at)

unfoldable pub port_at : Reading PortTree
port_at = choice (is_word_of input_keys) input_at output_at

unfoldable pub period_at : Reading (Option TimeTree)
period_at = maybe (is (Symbol 44)) (second (symbol_at 44) ptime_at)

unfoldable pub times_at : Reading (Option (TimeTree × Option TimeTree))
times_at = enclosed_at (both ptime_at period_at)

unfoldable pub timer_at : Reading TimerTree
timer_at = apply timer_of (both (second (key_at (codes "timer")) name_at) (maybe (is (Symbol 40)) times_at))

unfoldable pub min_delay_at : Reading (Option TimeTree)
min_delay_at = enclosed_at ptime_at

unfoldable pub origin_at : Reading Bool
origin_at = choice (is (Letters (codes "logical"))) (apply logical_is (key_at (codes "logical"))) (apply physical_is (key_at (codes "physical")))

unfoldable pub action_at : Reading ActionTree
action_at = apply action_of (first (both (both (first origin_at (key_at (codes "action"))) name_at) (maybe (is (Symbol 40)) min_delay_at)) typed_at)

abbrev pub is_initial : Option Lexeme → Bool
is_initial o = is (Symbol 61) o || is (Symbol 40) o || is (Symbol 123) o

unfoldable pub initial_at : Reading (Unit {0})
initial_at = choice (is (Symbol 61)) (second (symbol_at 61) value_at) (choice (is (Symbol 40)) parentheses_at braces_at)

unfoldable pub state_at : Reading Range
state_at = range_at (second (second (second (key_at (codes "state")) (ignoring_at name_at)) typed_at) (ignoring_at (maybe is_initial initial_at)))

unfoldable pub scope_at : Reading (Unit {0})
scope_at = choice (is (Letters (codes "private"))) (key_at (codes "private")) (key_at (codes "public"))

unfoldable pub preamble_at : Reading Range
preamble_at = range_at (second (second (ignoring_at (maybe (is_word_of scope_keys) scope_at)) (key_at (codes "preamble"))) (one_at Code))

-- ---- reactions, instances and connections

unfoldable pub trigger_at : Reading TriggerTree
trigger_at = choice (is (Letters (codes "startup"))) (apply startup_of (key_at (codes "startup"))) (choice (is (Letters (codes "shutdown"))) (apply shutdown_of (key_at (codes "shutdown"))) (apply OnRef ref_at))

unfoldable pub triggers_at : Reading (List TriggerTree)
triggers_at = apply or_empty (enclosed_at (listed_at trigger_at))

unfoldable pub uses_at : Reading (Option (List RefTree))
uses_at = maybe is_name refs_at

unfoldable pub effects_at : Reading (Option (List RefTree))
effects_at = maybe (is Arrow) (second (one_at Arrow) refs_at)

unfoldable pub reaction_at : Reading ReactionTree
reaction_at = apply reaction_of (first (both (both (second (second (key_at (codes "reaction")) (ignoring_at (maybe is_name name_at))) triggers_at) uses_at) effects_at) (one_at Code))

unfoldable pub given_value_at : Reading TimeTree
given_value_at = choice (is (Symbol 61)) (second (symbol_at 61) ptime_at) (first (second (symbol_at 40) ptime_at) (symbol_at 41))

unfoldable pub assign_at : Reading AssignmentTree
assign_at = apply assignment_of (both name_at given_value_at)

unfoldable pub assigns_at : Reading (List AssignmentTree)
assigns_at = apply or_empty (enclosed_at (listed_at assign_at))

unfoldable pub instance_at : Reading InstanceTree
instance_at = apply instance_of (both (both (first (first name_at (symbol_at 61)) (key_at (codes "new"))) name_at) assigns_at)

unfoldable pub after_at : Reading (Option TimeTree)
after_at = maybe (is (Letters (codes "after"))) (second (key_at (codes "after")) pdelay_at)

unfoldable pub connection_at : Reading ConnectionTree
connection_at = apply connection_of (both (both (first refs_at (one_at Arrow)) refs_at) after_at)

-- ---- members and reactors

unfoldable pub member_at : Reading MemberTree
member_at =
    choice (is_word_of port_keys) (apply PortMember port_at) (choice (is (Letters (codes "timer"))) (apply TimerMember timer_at)
    (choice (is_word_of action_keys) (apply ActionMember action_at) (choice (is (Letters (codes "state"))) (apply StateMember state_at)
    (choice (is_word_of preamble_keys) (apply PreambleMember preamble_at) (choice (is (Letters (codes "reaction"))) (apply ReactionMember reaction_at)
    (choice_next (is (Symbol 61)) (apply InstanceMember instance_at) (apply ConnectionMember connection_at)))))))

-- not the closing brace
abbrev pub is_inside : Option Lexeme → Bool
is_inside o = negated (is (Symbol 125) o)

unfoldable pub members_at : Reading (List MemberTree)
members_at = repeated is_inside member_at

unfoldable pub body_at : Reading (List MemberTree)
body_at = first (second (symbol_at 123) members_at) (symbol_at 125)

unfoldable pub default_at : Reading Time
default_at = choice (is (Symbol 61)) (second (symbol_at 61) time_at) (first (second (symbol_at 40) time_at) (symbol_at 41))

unfoldable pub param_at : Reading ParameterTree
param_at = apply parameter_of (both (first (first name_at (symbol_at 58)) (key_at (codes "time"))) default_at)

unfoldable pub params_at : Reading (List ParameterTree)
params_at = apply or_empty (enclosed_at (listed_at param_at))

unfoldable pub reactor_at : Reading ReactorTree
reactor_at =
    choice (is (Letters (codes "reactor")))
    (apply reactor_of (both (both (second (key_at (codes "reactor")) name_at) (maybe (is (Symbol 40)) params_at)) body_at))
    (apply main_of (both (both (second (second (key_at (codes "main")) (key_at (codes "reactor"))) (maybe is_name name_at)) (maybe (is (Symbol 40)) params_at)) body_at))

-- ---- the file

unfoldable pub target_at : Reading Range
target_at = range_at (second (second (key_at (codes "target")) (ignoring_at name_at)) (ignoring_at (maybe (is (Symbol 123)) braces_at)))

unfoldable pub item_at : Reading ItemTree
item_at = choice (is_word_of preamble_keys) (apply PreambleItem preamble_at) (apply ReactorItem reactor_at)

unfoldable pub items_at : Reading (List ItemTree)
items_at = repeated is_there item_at

unfoldable pub file_at : Reading FileTree
file_at = apply file_of (both (maybe (is (Letters (codes "target"))) target_at) items_at)

-- the whole text: a file is read up to the end
unfoldable pub whole_at : List Lexeme → Result FileTree ℕ
whole_at ws = file_at ws 0 >>= λ a. Ok a.0
