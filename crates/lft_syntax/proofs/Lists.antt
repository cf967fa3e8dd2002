-- Lists with commas, and what stands in parentheses.
use Rattle.std.proofs.Common.{◌≡◌, ℕ, suc, ◌+◌, ◌≤◌, Bool, true, false, List, [], ◌∷◌, Some, Result, Ok, Err, refl, arith}
use Rattle.std.specs.Prelude.{slice_get}
use Rattle.lft_syntax.specs.{Lexeme.{Lexeme, Symbol, is}, Language.{Spelling, ◌>>◌, optional, many, made}}
use Rattle.lft_syntax.specs.Grammar.{symbol, with_first, or_empty, listed, enclosed}
use Rattle.lft_syntax.specs.inner.Reading.{Reading, ◌>>=◌, repeated, with_front, after_comma, listed_at, is_open, enclosed_at, apply}
use Rattle.lft_syntax.proofs.Algebra.{Follow, Horizon, near, Right, Any, Test, Starts, starts_one, loosen, same_reading}
use Rattle.lft_syntax.proofs.Rules.{near_looks, and_if, skip, before_if, making, this_one, perhaps, Here, leads_one, here, starts_skip, starts_and, starts_before, starts_made, leads_many, repeat, same_follow}

pub right_after_comma : {A : Type 0} {P : Spelling A} {F : Follow} {e : Horizon} {p : Reading A} → ((ws : List Lexeme) (i : ℕ) → i + 1 ≤ e ws i) → Right P F e near 1 p → Right (symbol 44 >> P) F near near (suc 1) (after_comma p)
right_after_comma {F = F} early right = skip (this_one (Symbol 44)) (loosen F near near 1 (same_follow F) early (λ ws i. omega arith) (omega arith) right)

list_rest : {A : Type 0} (x : A) (r : Result (List A × ℕ) ℕ) → ◌>>=◌ {A = (A × List A) × ℕ} (r >>= λ b. Ok ((x, b.0), b.1)) (λ a. Ok (with_first a.0, a.1)) ≡ with_front (x ∷ []) r
list_rest x (Ok b) = refl
list_rest x (Err e) = refl

list_all : {A : Type 0} (p : Reading A) (ws : List Lexeme) (r : Result (A × ℕ) ℕ) → ◌>>=◌ {A = (A × List A) × ℕ} (r >>= λ a. repeated (is (Symbol 44)) (after_comma p) ws a.1 >>= λ b. Ok ((a.0, b.0), b.1)) (λ a. Ok (with_first a.0, a.1))
    ≡ (r >>= λ a. with_front (a.0 ∷ []) (repeated (is (Symbol 44)) (after_comma p) ws a.1))
list_all p ws (Ok a) = list_rest a.0 (repeated (is (Symbol 44)) (after_comma p) ws a.1)
list_all p ws (Err e) = refl

-- P {"," P}, where a comma may follow P
pub right_listed : {A : Type 0} {P : Spelling A} {F : Follow} {e : Horizon} {p : Reading A} (G : Follow) → ((ws : List Lexeme) (i : ℕ) → i + 1 ≤ e ws i)
    → ((vs : List Lexeme) (m : ℕ) → G vs m → is (Symbol 44) (slice_get vs m) ≡ false) → ((vs : List Lexeme) (m : ℕ) → G vs m → F vs m) → ((vs : List Lexeme) (m : ℕ) → Here (Symbol 44) vs m → F vs m)
    → Right P F e near 1 p → Right (listed P) G e near 1 (listed_at p)
right_listed {A = A} {P = P} {F = F} {e = e} {p = p} G early stops leads comma right =
    let begins : ((vs : List Lexeme) (i j : ℕ) (x : A) → (symbol 44 >> P) vs i j x → F vs i) = λ vs i j x s. comma vs i (leads_one (Symbol 44) Any vs i s.0 tt s.1 tt) in
    same_reading (listed_at p) (λ ws i. list_all p ws (p ws i)) (making with_first (and_if (leads_many (symbol 44 >> P) G F leads begins) right
    (repeat G near (is (Symbol 44)) near_looks (λ ws i e. omega arith) (starts_skip P (starts_one (Symbol 44) (is (Symbol 44)) true refl)) stops leads begins (right_after_comma early right))))

-- "(" [P] ")"
pub right_enclosed : {A : Type 0} {P : Spelling A} {F : Follow} {n : ℕ} {p : Reading A} → Starts P is_open true → ((vs : List Lexeme) (m : ℕ) → Here (Symbol 41) vs m → F vs m)
    → Right P F near near n p → Right (enclosed P) Any near near 2 (enclosed_at p)
right_enclosed {P = P} starts leads right = before_if (leads_one (Symbol 41) Any) (skip (this_one (Symbol 40)) (perhaps (Here (Symbol 41)) is_open starts (here (Symbol 41) is_open false refl) leads right)) (this_one (Symbol 41))

-- "(" [P {"," P}] ")"
pub right_enclosed_list : {A : Type 0} {P : Spelling A} {F : Follow} {p : Reading A} → Starts P is_open true
    → ((vs : List Lexeme) (m : ℕ) → Here (Symbol 41) vs m → F vs m) → ((vs : List Lexeme) (m : ℕ) → Here (Symbol 44) vs m → F vs m)
    → Right P F near near 1 p → Right (made or_empty (enclosed (listed P))) Any near near 2 (apply or_empty (enclosed_at (listed_at p)))
right_enclosed_list {P = P} starts shuts comma right =
    making or_empty (right_enclosed (starts_made with_first (starts_and (many (symbol 44 >> P)) starts)) (same_follow (Here (Symbol 41)))
    (right_listed (Here (Symbol 41)) near_looks (here (Symbol 41) (is (Symbol 44)) false refl) shuts comma right))

pub starts_enclosed : {A : Type 0} (P : Spelling A) {go : Test} {b : Bool} → go (Some (Symbol 40)) ≡ b → Starts (enclosed P) go b
starts_enclosed P {go = go} {b = b} e = starts_before (symbol 41) (starts_skip (optional P) (starts_one (Symbol 40) go b e))
