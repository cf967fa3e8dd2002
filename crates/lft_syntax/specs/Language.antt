-- The words that grammars are written in.
use Rattle.std.specs.Prelude.{◌≡◌, ℕ, ◌+◌, List, [], ◌∷◌, slice_get, Option, Some, None, ◌⊎◌, if◌then◌else◌}
use Rattle.lft_syntax.specs.Lexeme.{Lexeme, same}

-- P ws i j x: the tokens of ws from the i-th up to the j-th spell x
abbrev pub Spelling : Type 0 → Type 1
Spelling A = List Lexeme → ℕ → ℕ → A → Type 0

-- what is seen in a token
abbrev pub look : {A : Type 0} → (Lexeme → Option A) → Option Lexeme → Option A
look see None = None
look see (Some w) = see w

-- one token, in which the value is seen
abbrev pub token : {A : Type 0} → (Lexeme → Option A) → Spelling A
token see ws i j x = (look see (slice_get ws i) ≡ Some x) × (j ≡ i + 1)

-- whether it is this token
abbrev pub this : Lexeme → Lexeme → Option (Unit {0})
this w v = if same w v then Some tt else None

-- this token
abbrev pub one : Lexeme → Spelling (Unit {0})
one w = token (this w)

infixl 5 ◌&◌
infixl 5 ◌>>◌
infixl 5 ◌<<◌
-- one after the other: both values, the second's, the first's
abbrev pub ◌&◌ : {A B : Type 0} → Spelling A → Spelling B → Spelling (A × B)
(P & Q) ws i j x = (m : ℕ) × P ws i m x.0 × Q ws m j x.1

abbrev pub ◌>>◌ : {B : Type 0} → Spelling (Unit {0}) → Spelling B → Spelling B
(P >> Q) ws i j y = (m : ℕ) × P ws i m tt × Q ws m j y

abbrev pub ◌<<◌ : {A : Type 0} → Spelling A → Spelling (Unit {0}) → Spelling A
(P << Q) ws i j x = (m : ℕ) × P ws i m x × Q ws m j tt

infixr 4 ◌or◌
-- one or the other
abbrev pub ◌or◌ : {A : Type 0} → Spelling A → Spelling A → Spelling A
(P or Q) ws i j x = P ws i j x ⊎ Q ws i j x

-- there or not
abbrev pub optional : {A : Type 0} → Spelling A → Spelling (Option A)
optional P ws i j None = j ≡ i
optional P ws i j (Some x) = P ws i j x

-- any number of times
abbrev pub many : {A : Type 0} → Spelling A → Spelling (List A)
many P ws i j [] = j ≡ i
many P ws i j (x ∷ xs) = (m : ℕ) × P ws i m x × many P ws m j xs

-- what is made of the value
abbrev pub made : {A B : Type 0} → (A → B) → Spelling A → Spelling B
made {A = A} f P ws i j y = (x : A) × P ws i j x × (f x ≡ y)

-- with any value
abbrev pub ignored : {A : Type 0} → Spelling A → Spelling (Unit {0})
ignored {A = A} P ws i j _ = (x : A) × P ws i j x

-- which tokens they are
abbrev pub range : Spelling (Unit {0}) → Spelling (ℕ × ℕ)
range P ws i j x = P ws i j tt × (x ≡ (i, j))

-- tokens between brackets: only these two brackets are counted
pub data Balanced (opening closing : Lexeme) (ws : List Lexeme) : ℕ → ℕ → Type 0 where
  nothing : {i : ℕ} → Balanced opening closing ws i i
  another : {i j : ℕ} {w : Lexeme} → slice_get ws i ≡ Some w → (w ≡ opening → ⊥) → (w ≡ closing → ⊥) → Balanced opening closing ws (i + 1) j → Balanced opening closing ws i j
  nested : {i m j : ℕ} → slice_get ws i ≡ Some opening → Balanced opening closing ws (i + 1) m → slice_get ws m ≡ Some closing → Balanced opening closing ws (m + 1) j → Balanced opening closing ws i j

-- an opening bracket, and up to the closing one that balances it
abbrev pub group : Lexeme → Lexeme → Spelling (Unit {0})
group opening closing ws i j _ = (m : ℕ) × (slice_get ws i ≡ Some opening) × Balanced opening closing ws (i + 1) m × (slice_get ws m ≡ Some closing) × (j ≡ m + 1)
