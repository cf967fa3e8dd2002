-- Values of state variables.
use Rattle.std.proofs.Common.{◌≡◌, ℕ, suc, ◌+◌, ◌≤◌, Bool, true, false, List, length, Option, Some, None, Result, Ok, Err, refl, sym, ap, subst, ◌∙◌, arith, cond}
use Rattle.std.specs.Prelude.{slice_get}
use Rattle.std.proofs.lemmas.Bool.{or_from}
use Rattle.lft_syntax.proofs.{Options.some, Begun.{optional_regular, begun_there}}
use Rattle.lft_syntax.proofs.Algebra.{near, Outcome, Right, Any, Test, Starts, Not, starts_token, starts_one}
use Rattle.lft_syntax.proofs.Rules.{near_looks, skip, skip_if, ignoring, this_one, perhaps, perhaps_to, here, leads_ignored, leads_optional, starts_skip, starts_ignored, starts_or, starts_either, repeat, choose, ended, same_follow, right_name, right_number}
use Rattle.lft_syntax.proofs.Groups.{right_group}
use Rattle.lft_syntax.proofs.Lookahead.{far, past_name, Ends, far_looks, far_past, far_two, past_two, no_symbol, ends_follower, name_first, starts_name, named, ends_name}
use Rattle.lft_syntax.specs.Lexeme.{Lexeme, Code, Text, Letters, Number, Symbol, is, is_name, same, number_in}
use Rattle.lft_syntax.specs.inner.Tests.{is_follower}
use Rattle.lft_syntax.specs.inner.Reading.{Reading, ◌>>=◌, maybe_suffix, braces_at, brackets_at, parentheses_at, signed_at, suffix_at, quantity_at, is_sign, dot_name_at, dot_names_at, path_at, value_at}
use Rattle.lft_syntax.specs.Language.{Spelling, ◌>>◌, ◌or◌, optional, many, ignored, group}
use Rattle.lft_syntax.specs.Grammar.{symbol, name, number, braces, brackets, parentheses, suffix, quantity, value}

-- ---- groups

pub right_braces : Right braces Any near near 2 braces_at
right_braces = right_group (Symbol 123) (Symbol 125) (λ e. let f : true ≡ false = ap (same (Symbol 123)) e in cc f)

pub right_brackets : Right brackets Any near near 2 brackets_at
right_brackets = right_group (Symbol 91) (Symbol 93) (λ e. let f : true ≡ false = ap (same (Symbol 91)) e in cc f)

pub right_parentheses : Right parentheses Any near near 2 parentheses_at
right_parentheses = right_group (Symbol 40) (Symbol 41) (λ e. let f : true ≡ false = ap (same (Symbol 40)) e in cc f)

pub starts_group : (opening closing : Lexeme) (go : Test) (b : Bool) → go (Some opening) ≡ b → Starts (group opening closing) go b
starts_group opening closing go b e = record { at = λ vs i j x s. here opening go b e vs i s.1 }

-- ---- numbers with a suffix

starts_signed : (go : Test) (b : Bool) → go (Some (Symbol 43)) ≡ b → go (Some (Symbol 45)) ≡ b → Starts (symbol 43 >> ignored number or symbol 45 >> ignored number) go b
starts_signed go b plus minus = starts_or (starts_skip (ignored number) (starts_one (Symbol 43) go b plus)) (starts_skip (ignored number) (starts_one (Symbol 45) go b minus))

pub right_signed : Right (symbol 43 >> ignored number or symbol 45 >> ignored number) Any near near 2 signed_at
unfolding signed_at
right_signed = choose (is (Symbol 43)) (starts_skip (ignored number) (starts_one (Symbol 43) (is (Symbol 43)) true refl)) (starts_skip (ignored number) (starts_one (Symbol 45) (is (Symbol 43)) false refl))
    (skip (this_one (Symbol 43)) (ignoring right_number)) (skip (this_one (Symbol 45)) (ignoring right_number))

no_sign : (vs : List Lexeme) (m : ℕ) → Ends vs m → is_sign (slice_get vs m) ≡ false
no_sign vs m h = or_from (is (Symbol 43) (slice_get vs m)) (is (Symbol 45) (slice_get vs m)) (no_symbol 43 refl vs m h) (no_symbol 45 refl vs m h)

right_suffix : Right suffix Ends past_name far 1 suffix_at
unfolding suffix_at
right_suffix = skip (ignoring name_first) (ignoring (perhaps_to Ends is_sign far_looks (starts_signed is_sign true refl refl) no_sign (same_follow Ends) (ended Ends far 2 (λ vs m h. tt) far_looks (omega arith) right_signed)))

starts_suffix : Starts suffix is_name true
starts_suffix = starts_skip (ignored (optional (symbol 43 >> ignored number or symbol 45 >> ignored number))) (starts_ignored starts_name)

-- after the name of a suffix none of a member's signs stands
suffix_next : (vs : List Lexeme) (i m : ℕ) (o : Option (Unit {0})) → optional (symbol 43 >> ignored number or symbol 45 >> ignored number) vs i m o → Ends vs m → is_follower (slice_get vs i) ≡ true → ⊥
suffix_next vs i m None s after follows = ends_follower (slice_get vs m) (slice_get vs (m + 1)) after (subst (λ (k : ℕ). is_follower (slice_get vs k) ≡ true) (sym s) follows)
suffix_next vs i m (Some x) s after follows = let no = (starts_signed is_follower false refl refl).at vs i m x s in cc (no, follows)

suffix_clash : (vs : List Lexeme) (i m : ℕ) (y : Unit {0}) → suffix vs i m y → Ends vs m → is_follower (slice_get vs (i + 1)) ≡ true → ⊥
suffix_clash vs i m y s after follows = suffix_next vs s.0 m s.2.0 s.2.1 after (subst (λ (k : ℕ). is_follower (slice_get vs k) ≡ true) (sym s.1.1.1) follows)

abbrev Suffix : Type 0
Suffix = Unit {0}

module _ (ws : List Lexeme) (i : ℕ) where
  -- no name stands there
  bare_forced : (vs : List Lexeme) (m : ℕ) (y : Option Suffix) → is_name (slice_get ws i) ≡ false → slice_get ws i ≡ slice_get vs i → optional suffix vs i m y → ◌≡◌ {A = Option Suffix} y None × (m ≡ i)
  bare_forced vs m None absent same0 s = (refl, s)
  bare_forced vs m (Some z) absent same0 s = absurd (let yes = starts_suffix.at vs i m z s in cc (yes, same0, absent))

  bare : i ≤ length ws → is_name (slice_get ws i) ≡ false → Outcome (optional suffix) Ends far far 0 ws i (Ok (None, i))
  bare le absent = record {
    further = omega arith;
    within = le;
    seen = omega arith;
    found = refl;
    forced = λ vs m y agree s after. bare_forced vs m y absent (agree i (let l = far_looks ws i in omega arith)) s;
  }

  -- a name stands there that begins a member
  other_forced : (vs : List Lexeme) (m : ℕ) (y : Option Suffix) → is_follower (slice_get vs (i + 1)) ≡ true → optional suffix vs i m y → Ends vs m → ◌≡◌ {A = Option Suffix} y None × (m ≡ i)
  other_forced vs m None follows s after = (refl, s)
  other_forced vs m (Some z) follows s after = absurd (suffix_clash vs i m z s after follows)

  other : i ≤ length ws → is_name (slice_get ws i) ≡ true → is_follower (slice_get ws (i + 1)) ≡ true → Outcome (optional suffix) Ends far far 0 ws i (Ok (None, i))
  other le there follows = record {
    further = omega arith;
    within = le;
    seen = omega arith;
    found = refl;
    forced = λ vs m y agree s after.
        let two = far_two ws i there follows in
        let same1 = agree (i + 1) (omega (arith, two)) in
        other_forced vs m y (sym (ap is_follower same1) ∙ follows) s after;
  }

  -- a name stands there that begins none
  own_forced : (vs : List Lexeme) (m : ℕ) (y : Option Suffix) (x : Suffix) (j : ℕ) → is_name (slice_get vs i) ≡ true → is_follower (slice_get vs (i + 1)) ≡ false → optional suffix vs i m y → Ends vs m
      → ((z : Suffix) → suffix vs i m z → (z ≡ x) × (m ≡ j)) → (y ≡ Some x) × (m ≡ j)
  own_forced vs m None x j there alone s after inner =
      absurd (let e = ends_name (slice_get vs i) (slice_get vs (i + 1)) there (subst (λ (k : ℕ). Ends vs k) s after) in cc (e, alone))
  own_forced vs m (Some z) x j there alone s after inner = let e = inner z s in (ap some e.0, e.1)

  own_none : (vs : List Lexeme) (m : ℕ) (y : Option Suffix) → is_name (slice_get vs i) ≡ true → is_follower (slice_get vs (i + 1)) ≡ false → optional suffix vs i m y → Ends vs m → ((z : Suffix) → suffix vs i m z → ⊥) → ⊥
  own_none vs m None there alone s after inner = let e = ends_name (slice_get vs i) (slice_get vs (i + 1)) there (subst (λ (k : ℕ). Ends vs k) s after) in cc (e, alone)
  own_none vs m (Some z) there alone s after inner = inner z s

  own : is_name (slice_get ws i) ≡ true → is_follower (slice_get ws (i + 1)) ≡ false → (r : Result (Suffix × ℕ) ℕ) → Outcome suffix Ends past_name far 1 ws i r
      → Outcome (optional suffix) Ends far far 0 ws i (r >>= λ a. Ok (Some a.0, a.1))
  own there alone (Ok a) k = record {
    further = omega (arith, k.further);
    within = k.within;
    seen = let l = far_past ws i in omega (arith, k.seen);
    found = k.found;
    forced = λ vs m y agree s after.
        let l = far_looks ws a.1 in
        let same0 = agree i (omega (arith, k.further)) in
        let same1 = agree (i + 1) (omega (arith, k.further)) in
        own_forced vs m y a.0 a.1 (sym (ap is_name same0) ∙ there) (sym (ap is_follower same1) ∙ alone) s after (λ z t. k.forced vs m z agree t after);
  }
  own there alone (Err t) k = record {
    seen = let l = far_past ws i in omega (arith, k.seen);
    within = k.within;
    begun = begun_there k.begun;
    none = λ vs m y agree s after.
        let two = past_two ws i there in
        let same0 = agree i (omega (arith, k.seen, two)) in
        let same1 = agree (i + 1) (omega (arith, k.seen, two)) in
        own_none vs m y (sym (ap is_name same0) ∙ there) (sym (ap is_follower same1) ∙ alone) s after (λ z u. k.none vs m z agree u after);
  }

  suffix_case : i ≤ length ws → (a b : Bool) → is_name (slice_get ws i) ≡ a → is_follower (slice_get ws (i + 1)) ≡ b
      → Outcome (optional suffix) Ends far far 0 ws i (cond a (cond b (Ok (None, i)) (suffix_at ws i >>= λ a. Ok (Some a.0, a.1))) (Ok (None, i)))
  suffix_case le true true there follows = other le there follows
  suffix_case le true false there alone = own there alone (suffix_at ws i) (right_suffix.at ws i le)
  suffix_case le false b absent e = bare le absent

right_maybe_suffix : Right (optional suffix) Ends far far 0 (maybe_suffix suffix_at)
right_maybe_suffix = record { regular = optional_regular right_suffix.regular; at = λ ws i le. suffix_case ws i le (is_name (slice_get ws i)) (is_follower (slice_get ws (i + 1))) refl refl }

number_so_in : (go : Test) (b : Bool) → ((n : ℕ) → go (Some (Number n)) ≡ b) → (w : Lexeme) (n : ℕ) → number_in w ≡ Some n → go (Some w) ≡ b
number_so_in go b so (Number k) n e = so k
number_so_in go b so _ n e = absurd cc

pub starts_number : (go : Test) (b : Bool) → ((n : ℕ) → go (Some (Number n)) ≡ b) → Starts number go b
starts_number go b so = starts_token number_in go b (number_so_in go b so)

-- ---- quantities

right_quantity : Right quantity Ends near far 1 quantity_at
unfolding quantity_at
right_quantity =
    let sign = ignoring (perhaps (Not (is (Symbol 45))) (is (Symbol 45)) (starts_one (Symbol 45) (is (Symbol 45)) true refl) (same_follow (Not (is (Symbol 45)))) (λ vs m h. tt) (this_one (Symbol 45))) in
    let whole = skip_if (λ vs m j y s after. (starts_ignored (starts_number (is (Symbol 45)) false (λ n. refl))).at vs m j y s) sign (ignoring right_number) in
    let part = skip whole (ignoring (perhaps_to (Not (is (Symbol 46))) (is (Symbol 46)) far_looks (starts_skip (ignored number) (starts_one (Symbol 46) (is (Symbol 46)) true refl)) (same_follow (Not (is (Symbol 46)))) (λ vs m h. tt)
    (ended Any far 2 (λ vs m h. tt) far_looks (omega arith) (skip (this_one (Symbol 46)) (ignoring right_number))))) in
    skip_if (leads_ignored (leads_optional suffix Ends (Not (is (Symbol 46))) (no_symbol 46 refl) (named (is (Symbol 46)) false (λ x. refl) starts_suffix).at)) part (ignoring right_maybe_suffix)

starts_quantity : (go : Test) (b : Bool) → go (Some (Symbol 45)) ≡ b → ((n : ℕ) → go (Some (Number n)) ≡ b) → Starts quantity go b
starts_quantity go b minus num = starts_skip (ignored (optional suffix)) (starts_skip (ignored (optional (symbol 46 >> ignored number))) (starts_either (starts_one (Symbol 45) go b minus) (starts_ignored (starts_number go b num))))

-- ---- values

pub right_dot_name : Right (symbol 46 >> ignored name) Any near near (suc 1) dot_name_at
unfolding dot_name_at
right_dot_name = skip (this_one (Symbol 46)) (ignoring right_name)

pub right_dot_names : Right (many (symbol 46 >> ignored name)) (Not (is (Symbol 46))) near near 0 dot_names_at
unfolding dot_names_at
right_dot_names = repeat (Not (is (Symbol 46))) near (is (Symbol 46)) near_looks (λ ws i e. omega arith) (starts_skip (ignored name) (starts_one (Symbol 46) (is (Symbol 46)) true refl))
    (same_follow (Not (is (Symbol 46)))) (λ vs m h. tt) (λ vs i j x s. tt) right_dot_name

abbrev path : Spelling (Unit {0})
path = ignored name >> ignored (many (symbol 46 >> ignored name))

right_path : Right path (Not (is (Symbol 46))) near near 1 path_at
unfolding path_at
right_path = skip (ignoring right_name) (ignoring right_dot_names)

starts_path : Starts path is_name true
starts_path = starts_skip (ignored (many (symbol 46 >> ignored name))) (starts_ignored starts_name)

module _ (go : Test) (word : (x : List ℕ) → go (Some (Letters x)) ≡ false) (minus : go (Some (Symbol 45)) ≡ false) (num : (n : ℕ) → go (Some (Number n)) ≡ false) where
  after_parentheses : Starts (path or quantity) go false
  after_parentheses = starts_or (named go false word starts_path) (starts_quantity go false minus num)

  after_brackets : go (Some (Symbol 40)) ≡ false → Starts (parentheses or path or quantity) go false
  after_brackets e = starts_or (starts_group (Symbol 40) (Symbol 41) go false e) after_parentheses

  after_braces : go (Some (Symbol 40)) ≡ false → go (Some (Symbol 91)) ≡ false → Starts (brackets or parentheses or path or quantity) go false
  after_braces e f = starts_or (starts_group (Symbol 91) (Symbol 93) go false f) (after_brackets e)

  after_text : go (Some (Symbol 40)) ≡ false → go (Some (Symbol 91)) ≡ false → go (Some (Symbol 123)) ≡ false → Starts (braces or brackets or parentheses or path or quantity) go false
  after_text e f g = starts_or (starts_group (Symbol 123) (Symbol 125) go false g) (after_braces e f)

closed : {P : Spelling (Unit {0})} {n : ℕ} {p : Reading (Unit {0})} → 1 ≤ n → Right P Any near near n p → Right P Ends near far 1 p
closed le right = ended Ends far 1 (λ vs m h. tt) far_looks le right

pub right_value : Right value Ends near far 1 value_at
unfolding value_at
right_value =
    choose (is Code) (starts_one Code (is Code) true refl) (starts_or (starts_one Text (is Code) false refl) (after_text (is Code) (λ x. refl) refl (λ n. refl) refl refl refl)) (closed (omega arith) (this_one Code))
    (choose (is Text) (starts_one Text (is Text) true refl) (after_text (is Text) (λ x. refl) refl (λ n. refl) refl refl refl) (closed (omega arith) (this_one Text))
    (choose (is (Symbol 123)) (starts_group (Symbol 123) (Symbol 125) (is (Symbol 123)) true refl) (after_braces (is (Symbol 123)) (λ x. refl) refl (λ n. refl) refl refl) (closed (omega arith) right_braces)
    (choose (is (Symbol 91)) (starts_group (Symbol 91) (Symbol 93) (is (Symbol 91)) true refl) (after_brackets (is (Symbol 91)) (λ x. refl) refl (λ n. refl) refl) (closed (omega arith) right_brackets)
    (choose (is (Symbol 40)) (starts_group (Symbol 40) (Symbol 41) (is (Symbol 40)) true refl) (after_parentheses (is (Symbol 40)) (λ x. refl) refl (λ n. refl)) (closed (omega arith) right_parentheses)
    (choose is_name starts_path (starts_quantity is_name false refl (λ n. refl)) (ended Ends far 1 (no_symbol 46 refl) far_looks (omega arith) right_path) right_quantity)))))
