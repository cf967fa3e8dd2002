-- Ports, timers, actions, state variables and preambles.
use Rattle.std.proofs.Common.{◌≡◌, ℕ, Bool, true, false, List, Some, refl, arith}
use Rattle.std.specs.Prelude.{slice_get, codes, ◌||◌}
use Rattle.std.proofs.lemmas.Bool.{or_from}
use Rattle.lft_syntax.specs.Lexeme.{Lexeme, Code, Letters, Symbol, is}
use Rattle.lft_syntax.specs.inner.Tests.{is_word_of, input_keys, scope_keys}
use Rattle.lft_syntax.specs.inner.Reading.{Reading, input_at, output_at, port_at, period_at, times_at, timer_at, min_delay_at, origin_at, action_at, is_initial, initial_at, state_at, scope_at, preamble_at, range_at}
use Rattle.lft_syntax.specs.Language.{Spelling, one, ◌&◌, ◌>>◌, ◌<<◌, ◌or◌, optional, made, ignored, range}
use Rattle.lft_syntax.specs.Grammar.{key, symbol, name, ptime, enclosed, typed, value, parentheses, braces, port, timer, action, state, preamble, input_of, output_of, timer_of, logical_is, physical_is, action_of}
use Rattle.lft_syntax.proofs.Algebra.{Follow, Horizon, near, Right, Leads, Any, Test, Starts, Not, right_range, starts_one}
use Rattle.lft_syntax.proofs.Rules.{near_looks, and, and_if, skip, skip_if, before, before_if, making, ignoring, this_one, perhaps, perhaps_to, Here, here, leads_one, leads_ignored, leads_optional, starts_skip, starts_and, starts_before, starts_made, starts_range, starts_or, starts_either, choose, ended, taking, same_follow, right_name}
use Rattle.lft_syntax.proofs.{Lists.{right_enclosed, starts_enclosed}, Lookahead.{far, Ends, far_looks, no_symbol}}
use Rattle.lft_syntax.proofs.{Times.{NoUnit, here_no_unit, right_ptime, starts_ptime}, Types.{TypeEnd, ends_type, right_typed, leads_typed}}
use Rattle.lft_syntax.proofs.Values.{right_value, right_braces, right_parentheses, starts_group}
use Rattle.lft_tree.specs.Tree.{TimeTree}

-- what begins with a test may stand where the test is asked
pub leads_starts : {A : Type 0} {Q : Spelling A} {go : Test} (G : Follow) → Starts Q go false → Leads Q G (Not go)
leads_starts G starts vs m j y s after = starts.at vs m j y s

pub ranging : {P : Spelling (Unit {0})} {F : Follow} {e h : Horizon} {n : ℕ} {p : Reading (Unit {0})} → Right P F e h n p → Right (range P) F e h n (range_at p)
ranging {P = P} {F = F} {e = e} {h = h} {n = n} {p = p} right = right_range P F e h n p right

-- ---- ports

pub starts_input : (go : Test) (b : Bool) → go (Some (Letters (codes "mutable"))) ≡ b → go (Some (Letters (codes "input"))) ≡ b
    → Starts (made input_of (ignored (optional (key (codes "mutable"))) >> key (codes "input") >> name << typed)) go b
starts_input go b change own = starts_made input_of (starts_before typed (starts_skip name (starts_either (starts_one (Letters (codes "mutable")) go b change) (starts_one (Letters (codes "input")) go b own))))

pub starts_output : (go : Test) (b : Bool) → go (Some (Letters (codes "output"))) ≡ b → Starts (made output_of (key (codes "output") >> name << typed)) go b
starts_output go b own = starts_made output_of (starts_before typed (starts_skip name (starts_one (Letters (codes "output")) go b own)))

right_input : Right (made input_of (ignored (optional (key (codes "mutable"))) >> key (codes "input") >> name << typed)) TypeEnd near near 2 input_at
unfolding input_at
right_input =
    let change = ignoring (perhaps (Not (is (Letters (codes "mutable")))) (is (Letters (codes "mutable"))) (starts_one (Letters (codes "mutable")) (is (Letters (codes "mutable"))) true refl)
    (same_follow (Not (is (Letters (codes "mutable"))))) (λ vs m h. tt) (this_one (Letters (codes "mutable")))) in
    making input_of (before (skip (skip_if (leads_starts Any (starts_one (Letters (codes "input")) (is (Letters (codes "mutable"))) false refl)) change (this_one (Letters (codes "input")))) right_name) right_typed)

right_output : Right (made output_of (key (codes "output") >> name << typed)) TypeEnd near near 2 output_at
unfolding output_at
right_output = making output_of (before (skip (this_one (Letters (codes "output"))) right_name) right_typed)

pub right_port : Right port TypeEnd near near 2 port_at
unfolding port_at
right_port = choose (is_word_of input_keys) (starts_input (is_word_of input_keys) true refl refl) (starts_output (is_word_of input_keys) false refl) right_input right_output

-- ---- timers

right_period : Right (optional (symbol 44 >> ptime)) (Here (Symbol 41)) near near 0 period_at
unfolding period_at
right_period = perhaps (Here (Symbol 41)) (is (Symbol 44)) (starts_skip ptime (starts_one (Symbol 44) (is (Symbol 44)) true refl)) (here (Symbol 41) (is (Symbol 44)) false refl)
    (here_no_unit (Symbol 41) refl) (skip (this_one (Symbol 44)) right_ptime)

period_begins : (vs : List Lexeme) (i j : ℕ) (x : TimeTree) → (symbol 44 >> ptime) vs i j x → NoUnit vs i
period_begins vs i j x s = here_no_unit (Symbol 44) refl vs i (leads_one (Symbol 44) Any vs i s.0 tt s.1 tt)

right_times : Right (enclosed (ptime & optional (symbol 44 >> ptime))) Any near near 2 times_at
unfolding times_at
right_times = right_enclosed (starts_and (optional (symbol 44 >> ptime)) starts_ptime) (same_follow (Here (Symbol 41)))
    (and_if (leads_optional (symbol 44 >> ptime) (Here (Symbol 41)) NoUnit (here_no_unit (Symbol 41) refl) period_begins) right_ptime right_period)

pub right_timer : Right timer (Not (is (Symbol 40))) near near 2 timer_at
unfolding timer_at
right_timer = making timer_of (and (skip (this_one (Letters (codes "timer"))) right_name)
    (perhaps (Not (is (Symbol 40))) (is (Symbol 40)) (starts_enclosed (ptime & optional (symbol 44 >> ptime)) refl) (same_follow (Not (is (Symbol 40)))) (λ vs m h. tt) right_times))

pub starts_timer : (go : Test) (b : Bool) → go (Some (Letters (codes "timer"))) ≡ b → Starts timer go b
starts_timer go b own = starts_made timer_of (starts_and (optional (enclosed (ptime & optional (symbol 44 >> ptime)))) (starts_skip name (starts_one (Letters (codes "timer")) go b own)))

-- ---- actions

-- or_from a minimum delay nor a type stands there
abbrev pub ActionEnd : Follow
ActionEnd vs m = TypeEnd vs m × (is (Symbol 40) (slice_get vs m) ≡ false)

right_origin : Right (made logical_is (key (codes "logical")) or made physical_is (key (codes "physical"))) Any near near 1 origin_at
unfolding origin_at
right_origin = choose (is (Letters (codes "logical"))) (starts_made logical_is (starts_one (Letters (codes "logical")) (is (Letters (codes "logical"))) true refl))
    (starts_made physical_is (starts_one (Letters (codes "physical")) (is (Letters (codes "logical"))) false refl)) (making logical_is (this_one (Letters (codes "logical")))) (making physical_is (this_one (Letters (codes "physical"))))

right_min_delay : Right (enclosed ptime) Any near near 2 min_delay_at
unfolding min_delay_at
right_min_delay = right_enclosed starts_ptime (here_no_unit (Symbol 41) refl) right_ptime

pub right_action : Right action ActionEnd near near 3 action_at
unfolding action_at
right_action = making action_of (before_if (leads_typed ActionEnd (Not (is (Symbol 40))) (λ vs m h. h.1) (here (Symbol 58) (is (Symbol 40)) false refl))
    (and (and (before right_origin (this_one (Letters (codes "action")))) right_name)
    (perhaps (Not (is (Symbol 40))) (is (Symbol 40)) (starts_enclosed ptime refl) (same_follow (Not (is (Symbol 40)))) (λ vs m h. tt) right_min_delay))
    (ended ActionEnd near 0 (λ vs m h. h.0) near_looks (omega arith) right_typed))

pub starts_action : (go : Test) (b : Bool) → go (Some (Letters (codes "logical"))) ≡ b → go (Some (Letters (codes "physical"))) ≡ b → Starts action go b
starts_action go b logic physics = starts_made action_of (starts_before typed (starts_and (optional (enclosed ptime)) (starts_and name (starts_before (key (codes "action"))
    (starts_or (starts_made logical_is (starts_one (Letters (codes "logical")) go b logic)) (starts_made physical_is (starts_one (Letters (codes "physical")) go b physics)))))))

-- ---- state variables

abbrev initial : Spelling (Unit {0})
initial = symbol 61 >> value or parentheses or braces

starts_initial : (go : Test) (b : Bool) → go (Some (Symbol 61)) ≡ b → go (Some (Symbol 40)) ≡ b → go (Some (Symbol 123)) ≡ b → Starts initial go b
starts_initial go b equals paren brace = starts_or (starts_skip value (starts_one (Symbol 61) go b equals)) (starts_or (starts_group (Symbol 40) (Symbol 41) go b paren) (starts_group (Symbol 123) (Symbol 125) go b brace))

right_initial : Right initial Ends near far 1 initial_at
unfolding initial_at
right_initial = choose (is (Symbol 61)) (starts_skip value (starts_one (Symbol 61) (is (Symbol 61)) true refl))
    (starts_or (starts_group (Symbol 40) (Symbol 41) (is (Symbol 61)) false refl) (starts_group (Symbol 123) (Symbol 125) (is (Symbol 61)) false refl))
    (taking 1 (omega arith) (skip (this_one (Symbol 61)) right_value))
    (choose (is (Symbol 40)) (starts_group (Symbol 40) (Symbol 41) (is (Symbol 40)) true refl) (starts_group (Symbol 123) (Symbol 125) (is (Symbol 40)) false refl)
    (ended Ends far 1 (λ vs m h. tt) far_looks (omega arith) right_parentheses) (ended Ends far 1 (λ vs m h. tt) far_looks (omega arith) right_braces))

no_initial : (vs : List Lexeme) (m : ℕ) → Ends vs m → is_initial (slice_get vs m) ≡ false
no_initial vs m h = or_from (is (Symbol 61) (slice_get vs m) || is (Symbol 40) (slice_get vs m)) (is (Symbol 123) (slice_get vs m))
    (or_from (is (Symbol 61) (slice_get vs m)) (is (Symbol 40) (slice_get vs m)) (no_symbol 61 refl vs m h) (no_symbol 40 refl vs m h)) (no_symbol 123 refl vs m h)

initial_begins : (vs : List Lexeme) (i j : ℕ) (x : Unit {0}) → initial vs i j x → TypeEnd vs i
initial_begins vs i j x s = (
  (starts_initial (is (Symbol 46)) false refl refl refl).at vs i j x s,
  (starts_initial (is (Symbol 58)) false refl refl refl).at vs i j x s,
  (starts_initial (is (Symbol 42)) false refl refl refl).at vs i j x s,
  (starts_initial (is (Symbol 91)) false refl refl refl).at vs i j x s,
)

pub right_state : Right state Ends near far 2 state_at
unfolding state_at
right_state = ranging (skip_if (leads_ignored (leads_optional initial Ends TypeEnd ends_type initial_begins))
    (skip (skip (this_one (Letters (codes "state"))) (ignoring right_name)) right_typed)
    (ignoring (perhaps_to Ends is_initial far_looks (starts_initial is_initial true refl refl refl) no_initial (same_follow Ends) right_initial)))

pub starts_state : (go : Test) (b : Bool) → go (Some (Letters (codes "state"))) ≡ b → Starts state go b
starts_state go b own = starts_range (starts_skip (ignored (optional initial)) (starts_skip typed (starts_skip (ignored name) (starts_one (Letters (codes "state")) go b own))))

-- ---- preambles

starts_scope : (go : Test) (b : Bool) → go (Some (Letters (codes "private"))) ≡ b → go (Some (Letters (codes "public"))) ≡ b → Starts (key (codes "private") or key (codes "public")) go b
starts_scope go b hidden shown = starts_or (starts_one (Letters (codes "private")) go b hidden) (starts_one (Letters (codes "public")) go b shown)

right_scope : Right (key (codes "private") or key (codes "public")) Any near near 1 scope_at
unfolding scope_at
right_scope = choose (is (Letters (codes "private"))) (starts_one (Letters (codes "private")) (is (Letters (codes "private"))) true refl) (starts_one (Letters (codes "public")) (is (Letters (codes "private"))) false refl)
    (this_one (Letters (codes "private"))) (this_one (Letters (codes "public")))

pub right_preamble : Right preamble Any near near 2 preamble_at
unfolding preamble_at
right_preamble =
    let scope = ignoring (perhaps (Not (is_word_of scope_keys)) (is_word_of scope_keys) (starts_scope (is_word_of scope_keys) true refl refl) (same_follow (Not (is_word_of scope_keys))) (λ vs m h. tt) right_scope) in
    ranging (skip (skip_if (leads_starts Any (starts_one (Letters (codes "preamble")) (is_word_of scope_keys) false refl)) scope (this_one (Letters (codes "preamble")))) (this_one Code))

pub starts_preamble : (go : Test) (b : Bool) → go (Some (Letters (codes "private"))) ≡ b → go (Some (Letters (codes "public"))) ≡ b → go (Some (Letters (codes "preamble"))) ≡ b → Starts preamble go b
starts_preamble go b hidden shown own = starts_range (starts_skip (one Code) (starts_either (starts_scope go b hidden shown) (starts_one (Letters (codes "preamble")) go b own)))
