-- Types.
use Rattle.std.proofs.Common.{◌≡◌, ℕ, suc, Bool, true, false, List, Some, refl, arith}
use Rattle.std.specs.Prelude.{slice_get}
use Rattle.std.proofs.lemmas.Bool.{or_from}
use Rattle.lft_syntax.specs.Lexeme.{Lexeme, Code, Letters, Symbol, is, number_in}
use Rattle.lft_syntax.specs.inner.Tests.{is_number}
use Rattle.lft_syntax.specs.inner.Reading.{symbol_at, is_type_part, type_part_at, type_parts_at, stars_at, array_part_at, array_parts_at, type_at, typed_at, second, ignoring_at, name_at}
use Rattle.lft_syntax.specs.{Language.{◌>>◌, optional, many, ignored}, Grammar.{symbol, name, number, type, typed, type_part, array_part}}
use Rattle.lft_syntax.proofs.Algebra.{Follow, near, Right, Leads, Any, Test, Starts, Not, starts_token, starts_one}
use Rattle.lft_syntax.proofs.Rules.{near_looks, skip, skip_if, ignoring, this_one, perhaps, Here, here, leads_one, leads_ignored, leads_many, leads_optional, starts_skip, starts_ignored, starts_or, repeat, choose, ended, taking, same_follow, right_name, right_number}
use Rattle.lft_syntax.proofs.{Lookahead.{Ends, no_symbol, starts_name, named}, Times.number_starts}

-- none of the signs that a type goes on with stands there
abbrev pub TypeEnd : Follow
TypeEnd vs m = (is (Symbol 46) (slice_get vs m) ≡ false) × (is (Symbol 58) (slice_get vs m) ≡ false) × (is (Symbol 42) (slice_get vs m) ≡ false) × (is (Symbol 91) (slice_get vs m) ≡ false)

-- the same, without the opening bracket
abbrev StarsEnd : Follow
StarsEnd vs m = (is_type_part (slice_get vs m) ≡ false) × (is (Symbol 42) (slice_get vs m) ≡ false)

no_part : (vs : List Lexeme) (m : ℕ) → TypeEnd vs m → is_type_part (slice_get vs m) ≡ false
no_part vs m h = or_from (is (Symbol 46) (slice_get vs m)) (is (Symbol 58) (slice_get vs m)) h.0 h.1

pub ends_type : (vs : List Lexeme) (m : ℕ) → Ends vs m → TypeEnd vs m
ends_type vs m h = (no_symbol 46 refl vs m h, no_symbol 58 refl vs m h, no_symbol 42 refl vs m h, no_symbol 91 refl vs m h)

pub right_type_part : Right type_part Any near near (suc 0) type_part_at
unfolding type_part_at
right_type_part = choose (is (Symbol 46)) (starts_skip (ignored name) (starts_one (Symbol 46) (is (Symbol 46)) true refl)) (starts_skip (ignored name) (starts_skip (symbol 58) (starts_one (Symbol 58) (is (Symbol 46)) false refl)))
    (taking 1 (omega arith) (skip (this_one (Symbol 46)) (ignoring right_name)))
    (taking 1 (omega arith) (skip (skip (this_one (Symbol 58)) (this_one (Symbol 58))) (ignoring right_name)))

starts_type_part : Starts type_part is_type_part true
starts_type_part = starts_or (starts_skip (ignored name) (starts_one (Symbol 46) is_type_part true refl)) (starts_skip (ignored name) (starts_skip (symbol 58) (starts_one (Symbol 58) is_type_part true refl)))

pub right_type_parts : Right (many type_part) (Not is_type_part) near near 0 type_parts_at
unfolding type_parts_at
right_type_parts = repeat (Not is_type_part) near is_type_part near_looks (λ ws i e. omega arith) starts_type_part (same_follow (Not is_type_part)) (λ vs m h. tt) (λ vs i j x s. tt) right_type_part

pub right_star : Right (symbol 42) Any near near (suc 0) (symbol_at 42)
right_star = this_one (Symbol 42)

pub right_stars : Right (many (symbol 42)) (Not (is (Symbol 42))) near near 0 stars_at
unfolding stars_at
right_stars = repeat (Not (is (Symbol 42))) near (is (Symbol 42)) near_looks (λ ws i e. omega arith) (starts_one (Symbol 42) (is (Symbol 42)) true refl) (same_follow (Not (is (Symbol 42)))) (λ vs m h. tt) (λ vs i j x s. tt) right_star

pub right_array_part : Right array_part Any near near (suc 1) array_part_at
unfolding array_part_at
right_array_part = skip_if (leads_one (Symbol 93) Any)
    (skip (this_one (Symbol 91)) (ignoring (perhaps (Here (Symbol 93)) is_number (starts_token number_in is_number true number_starts) (here (Symbol 93) is_number false refl) (λ vs m h. tt) right_number)))
    (this_one (Symbol 93))

pub right_array_parts : Right (many array_part) (Not (is (Symbol 91))) near near 0 array_parts_at
unfolding array_parts_at
right_array_parts = repeat (Not (is (Symbol 91))) near (is (Symbol 91)) near_looks (λ ws i e. omega arith) (starts_skip (symbol 93) (starts_skip (ignored (optional number)) (starts_one (Symbol 91) (is (Symbol 91)) true refl)))
    (same_follow (Not (is (Symbol 91)))) (λ vs m h. tt) (λ vs i j x s. tt) right_array_part

star_begins : (vs : List Lexeme) (i j : ℕ) (x : Unit {0}) → symbol 42 vs i j x → is_type_part (slice_get vs i) ≡ false
star_begins vs i j x s = here (Symbol 42) is_type_part false refl vs i (leads_one (Symbol 42) Any vs i j x s tt)

array_begins : (go : Test) (b : Bool) → go (Some (Symbol 91)) ≡ b → (vs : List Lexeme) (i j : ℕ) (x : Unit {0}) → array_part vs i j x → go (slice_get vs i) ≡ b
array_begins go b e vs i j x s = (starts_skip (symbol 93) (starts_skip (ignored (optional number)) (starts_one (Symbol 91) go b e))).at vs i j x s

named_type : Right (ignored name >> ignored (many type_part) >> ignored (many (symbol 42)) >> ignored (many array_part)) TypeEnd near near 1 (second (second (second (ignoring_at name_at) (ignoring_at type_parts_at)) (ignoring_at stars_at)) (ignoring_at array_parts_at))
named_type =
    skip_if (leads_ignored (leads_many array_part TypeEnd StarsEnd (λ vs m h. (no_part vs m h, h.2)) (λ vs i j x s. (array_begins is_type_part false refl vs i j x s, array_begins (is (Symbol 42)) false refl vs i j x s))))
    (skip_if (leads_ignored (leads_many (symbol 42) StarsEnd (Not is_type_part) (λ vs m h. h.0) star_begins))
    (skip (ignoring right_name) (ignoring right_type_parts))
    (ended StarsEnd near 0 (λ vs m h. h.1) near_looks (omega arith) (ignoring right_stars)))
    (ended TypeEnd near 0 (λ vs m h. h.3) near_looks (omega arith) (ignoring right_array_parts))

starts_named_type : (go : Test) (b : Bool) → ((x : List ℕ) → go (Some (Letters x)) ≡ b) → Starts (ignored name >> ignored (many type_part) >> ignored (many (symbol 42)) >> ignored (many array_part)) go b
starts_named_type go b so = starts_skip (ignored (many array_part)) (starts_skip (ignored (many (symbol 42))) (starts_skip (ignored (many type_part)) (starts_ignored (named go b so starts_name))))

pub right_type : Right type TypeEnd near near 1 type_at
unfolding type_at
right_type = choose (is Code) (starts_one Code (is Code) true refl) (starts_named_type (is Code) false (λ x. refl))
    (ended TypeEnd near 1 (λ vs m h. tt) near_looks (omega arith) (this_one Code)) named_type

-- [":" type]
pub right_typed : Right typed TypeEnd near near 0 typed_at
unfolding typed_at
right_typed = ignoring (perhaps TypeEnd (is (Symbol 58)) (starts_skip type (starts_one (Symbol 58) (is (Symbol 58)) true refl)) (λ vs m h. h.1) (same_follow TypeEnd) (skip (this_one (Symbol 58)) right_type))

-- where something else may stand, a type may too, if it isn't of the test
pub leads_typed : (G F : Follow) → ((vs : List Lexeme) (m : ℕ) → G vs m → F vs m) → ((vs : List Lexeme) (m : ℕ) → Here (Symbol 58) vs m → F vs m) → Leads typed G F
leads_typed G F stays colon = leads_ignored (leads_optional (symbol 58 >> type) G F stays (λ vs i j x s. colon vs i (leads_one (Symbol 58) Any vs i s.0 tt s.1 tt)))
