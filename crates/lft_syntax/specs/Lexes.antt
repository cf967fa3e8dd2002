-- The cutting of a text into white space, comments and tokens. Here t is the text, a list of bytes,
-- and i, j and k are places in it, counted from 0.
use Rattle.std.specs.Prelude.{◌≡◌, ◌≢◌, ℕ, ◌+◌, ◌-◌, ◌*◌, ◌<◌, ◌≤◌, ◌^◌, List, [], ◌∷◌, length, slice_get, slice_index, slice_range, Option, Some, None, Bool, if◌then◌else◌, true, false, ◌==◌, ◌&&◌}
use Rattle.std.specs.List.{fold}
use Rattle.lft_lists.specs.Bytes.{within, is_space, is_in_line, is_digit, is_letter, is_word, is_byte}
use Rattle.lft_syntax.specs.declared.token.{Token.Token, TokenKind.TokenKind}
use Rattle.lft_syntax.specs.declared.form.Form.{Form, TheVariants.{Space, LineComment, StarComment, Code, Text, Name, Digits, Arrow, Symbol, Unknown}}
use Rattle.lft_syntax.specs.declared.fault.LexFault.{LexFault}
use Rattle.lft_syntax.specs.declared.token.TokenKind.TheVariants as kinds
use Rattle.lft_syntax.specs.declared.fault.LexFault.TheVariants as faults

-- The bytes from i up to j are of the class, and the byte at j, if there is one, isn't.
pub record Run (class : ℕ → Bool) (t : List ℕ) (i j : ℕ) : Type 0 where
  pub order : i ≤ j
  pub within : j ≤ length t
  pub each : (k : ℕ) → i ≤ k → k < j → class (slice_index t k) ≡ true
  pub stops : j < length t → class (slice_index t j) ≡ false

-- The bytes a and b stand at i.
abbrev pub Pair : ℕ → ℕ → List ℕ → ℕ → Type 0
Pair a b t i = (slice_get t i ≡ Some a) × (slice_get t (i + 1) ≡ Some b)

-- The bytes a and b stand just before j, and nowhere before that from i on.
pub record PastPair (a b : ℕ) (t : List ℕ) (i j : ℕ) : Type 0 where
  pub place : ℕ
  pub order : i ≤ place
  pub there : Pair a b t place
  pub first : (k : ℕ) → i ≤ k → k < place → Pair a b t k → ⊥
  pub past : j ≡ place + 2

-- What follows a string's quote, from i on, ends just before j, with a quote (34); a backslash (92) escapes the byte after it.
pub data Quoted (t : List ℕ) : ℕ → ℕ → Type 0 where
  ends : {i j : ℕ} → slice_get t i ≡ Some 34 → j ≡ i + 1 → Quoted t i j
  escaped : {i j : ℕ} → slice_get t i ≡ Some 92 → Quoted t (i + 2) j → Quoted t i j
  plain : {i j b : ℕ} → slice_get t i ≡ Some b → b ≢ 34 → b ≢ 92 → Quoted t (i + 1) j → Quoted t i j

-- The number that the digits from i up to j write.
abbrev pub value : List ℕ → ℕ → ℕ → ℕ
value t i j = fold (λ n digit. n * 10 + (digit - 48)) 0 (slice_range t i j)

-- What begins with the byte b and the byte after it, if there is one: the first line that fits.
abbrev pub form_of : ℕ → Option ℕ → Form
form_of b next =
    if is_space b then Space
    else if (b == 35) then LineComment  -- #
    else if (b == 47) && is_byte 47 next then LineComment  -- //
    else if (b == 47) && is_byte 42 next then StarComment  -- /*
    else if (b == 123) && is_byte 61 next then Code  -- {=
    else if (b == 34) then Text  -- "
    else if is_letter b then Name
    else if is_digit b then Digits
    else if (b == 45) && is_byte 62 next then Arrow  -- ->
    else if within 33 126 b then Symbol
    else Unknown

-- What begins at i with the byte b ends just before j, and is a token of this kind; white space and comments are none.
-- A comment is closed by */ (42 47), code by =} (61 125); both are sought after the two bytes that open it.
abbrev pub Reads : List ℕ → ℕ → ℕ → Form → ℕ → Option TokenKind → Type 0
Reads t i b Space j kind = (j ≡ i + 1) × (kind ≡ None)
Reads t i b LineComment j kind = Run is_in_line t i j × (kind ≡ None)
Reads t i b StarComment j kind = PastPair 42 47 t (i + 2) j × (kind ≡ None)
Reads t i b Code j kind = PastPair 61 125 t (i + 2) j × (kind ≡ Some kinds.Code)
Reads t i b Text j kind = Quoted t (i + 1) j × (kind ≡ Some kinds.Text)
Reads t i b Name j kind = Run is_word t i j × (kind ≡ Some kinds.Name)
Reads t i b Digits j kind = Run is_digit t i j × (value t i j < 2 ^ 64) × (kind ≡ Some (kinds.Number (value t i j)))
Reads t i b Arrow j kind = (j ≡ i + 2) × (kind ≡ Some kinds.Arrow)
Reads t i b Symbol j kind = (j ≡ i + 1) × (kind ≡ Some (kinds.Symbol b))
Reads t i b Unknown j kind = ⊥

-- What begins at i in this form has this fault: it isn't closed, its number is too large, or nothing begins so.
abbrev pub IsFault : List ℕ → ℕ → Form → LexFault → Type 0
IsFault t i StarComment faults.OpenComment = (j : ℕ) → PastPair 42 47 t (i + 2) j → ⊥
IsFault t i Code faults.OpenCode = (j : ℕ) → PastPair 61 125 t (i + 2) j → ⊥
IsFault t i Text faults.OpenString = (j : ℕ) → Quoted t (i + 1) j → ⊥
IsFault t i Digits (faults.NumberTooLarge k) = (k ≡ i) × ((j : ℕ) × Run is_digit t i j × (2 ^ 64 ≤ value t i j))
IsFault t i Unknown (faults.BadChar k) = k ≡ i
IsFault t _ _ _ = ⊥

-- A piece of the text from i up to j: white space, a comment or a token of this kind.
pub record Piece (t : List ℕ) (i : ℕ) (kind : Option TokenKind) (j : ℕ) : Type 0 where
  pub byte : ℕ
  pub there : slice_get t i ≡ Some byte
  pub reads : Reads t i byte (form_of byte (slice_get t (i + 1))) j kind

-- What begins at i has this fault.
pub record FaultAt (t : List ℕ) (i : ℕ) (fault : LexFault) : Type 0 where
  pub byte : ℕ
  pub there : slice_get t i ≡ Some byte
  pub refused : IsFault t i (form_of byte (slice_get t (i + 1))) fault

-- The tokens with the piece from i up to j in front, if it is one.
abbrev pub with_token : Option TokenKind → ℕ → ℕ → List Token → List Token
with_token None i j tokens = tokens
with_token (Some kind) i j tokens = record { kind = kind; start = i; end = j } ∷ tokens

-- The text from i up to j is cut into pieces, and these of them are tokens.
pub data Cut (t : List ℕ) : ℕ → List Token → ℕ → Type 0 where
  done : {i : ℕ} → Cut t i [] i
  piece : {i m j : ℕ} {kind : Option TokenKind} {tokens : List Token} → Piece t i kind m → Cut t m tokens j → Cut t i (with_token kind i m tokens) j

-- The whole text is cut, and these are its tokens.
abbrev pub Lexes : List ℕ → List Token → Type 0
Lexes t tokens = Cut t 0 tokens (length t)

-- The fault that begins at the least byte: the text before it is cut.
abbrev pub Faults : List ℕ → LexFault → Type 0
Faults t fault = (i : ℕ) × (tokens : List Token) × Cut t 0 tokens i × FaultAt t i fault

-- The text up to i is cut, and what begins there has a fault.
abbrev pub IsRefusedAt : List ℕ → ℕ → Type 0
IsRefusedAt t i = (fault : LexFault) × (tokens : List Token) × Cut t 0 tokens i × FaultAt t i fault

-- Why a text is refused: its length, or, where that is within the limit, its one first fault, and then it has no tokens. Want of memory says nothing of it.
abbrev pub LexFails : List ℕ → LexFault → Type 0
LexFails t faults.TooLong = 1048576 < length t
LexFails t faults.NoMemory = Unit {0}
LexFails t fault = Faults t fault × ((other : LexFault) → Faults t other → other ≡ fault) × ((tokens : List Token) → Lexes t tokens → ⊥) × (length t ≤ 1048576)
