-- The lexical grammar of whole Lingua Franca: what begins at a place of a text, and where it ends. Here t is the
-- text, a list of bytes, and i and j are places in it, counted from 0.
use Rattle.std.specs.Prelude.{ℕ, zero, suc, ◌+◌, ◌-◌, ◌*◌, ◌^◌, min, List, ◌∷◌, length, slice_get, slice_index, slice_range, Option, Some, None, is_some, Result, Ok, Err, Bool, if◌then◌else◌, true, false, not, ◌&&◌, ◌||◌, nat_le, nat_lt, codes, []}
use Rattle.std.specs.{List.fold, Option.option_map}
use Rattle.lft_lists.specs.Bytes.{within, is_in_line, is_digit, is_letter, is_word, is_byte}
use Rattle.lft_syntax.specs.declared.token.{Token.Token, TokenKind.TokenKind}
use Rattle.lft_whole.specs.{Forms.{is_gap, is_hexadecimal}, declared.fault.TextFault.TextFault}
use Rattle.lft_syntax.specs.declared.token.TokenKind.TheVariants as kinds
use Rattle.lft_whole.specs.declared.fault.TextFault.TheVariants as faults

-- ---- what stands at a place
-- there is a byte, and it is of the class
abbrev pub is_of : (ℕ → Bool) → Option ℕ → Bool
is_of class None = false
is_of class (Some b) = class b

-- a byte of the class stands at a place
abbrev pub sees : (ℕ → Bool) → List ℕ → ℕ → Bool
sees class t i = is_of class (slice_get t i)

-- these bytes stand from a place on, one behind the other
abbrev pub stands : List ℕ → List ℕ → ℕ → Bool
stands [] t i = true
stands (b ∷ bs) t i = is_byte b (slice_get t i) && stands bs t (i + 1)

-- ---- where it ends
-- the first of so many places, from one on, that passes the test
unfoldable pub first : (ℕ → Bool) → ℕ → ℕ → Option ℕ
first test zero i = None
first test (suc left) i = if test i then Some i else first test left (i + 1)

-- the first place of the text, from one on, that passes the test
abbrev pub first_in : List ℕ → (ℕ → Bool) → ℕ → Option ℕ
first_in t test i = first test (length t - i) i

-- the place that was found, or else this one
abbrev pub place_or : ℕ → Option ℕ → ℕ
place_or j None = j
place_or j (Some i) = i

-- the first place from one on where no byte of the class stands
unfoldable pub run_end : (ℕ → Bool) → List ℕ → ℕ → ℕ
run_end class t i = place_or (length t) (first_in t (λ j. not (sees class t j)) i)

-- just past the first of these closing bytes, from a place on
abbrev pub past : List ℕ → List ℕ → ℕ → Option ℕ
past closing t i = option_map (λ j. j + length closing) (first_in t (stands closing t) i)

-- the byte n places behind i, where a string's bytes begin, stands behind a backslash that isn't escaped itself
unfoldable pub is_escaped : List ℕ → ℕ → ℕ → Bool
is_escaped t i zero = false
is_escaped t i (suc n) = not (is_escaped t i n) && stands (codes "\\") t (i + n)

-- these bytes stand at j, and aren't escaped in a string whose bytes begin at i
abbrev pub closes : List ℕ → List ℕ → ℕ → ℕ → Bool
closes closing t i j = not (is_escaped t i (j - i)) && stands closing t j

-- just past the closing bytes of a string whose bytes begin at a place
abbrev pub past_string : List ℕ → List ℕ → ℕ → Option ℕ
past_string closing t i = option_map (λ j. j + length closing) (first_in t (closes closing t i) i)

-- just past the quote that stands where a search ended; else the place where the line ended, or the text
abbrev pub past_or_line : ℕ → List ℕ → Option ℕ → Result ℕ ℕ
past_or_line quote t None = Err (length t)
past_or_line quote t (Some j) = if stands (quote ∷ []) t j then Ok (j + 1) else Err j

-- just past the quote of a string whose bytes begin at a place, if it stands before the first LF; neither is escaped
abbrev pub past_in_line : ℕ → List ℕ → ℕ → Result ℕ ℕ
past_in_line quote t i = past_or_line quote t (first_in t (λ j. closes (quote ∷ []) t i j || closes (10 ∷ []) t i j) i)

-- just past a character of one byte, or of a backslash and a byte, whose quote stands at a place
abbrev pub past_character : List ℕ → ℕ → Option ℕ
past_character t i =
    if stands (codes "\\") t (i + 1) then (if stands (codes "'") t (i + 3) then Some (i + 4) else None)
    else if stands (codes "'") t (i + 1) || stands (10 ∷ []) t (i + 1) then None
    else if stands (codes "'") t (i + 2) then Some (i + 3)
    else None

-- just past a string that ends on its line, or past its quote
abbrev pub past_or_next : ℕ → Result ℕ ℕ → ℕ
past_or_next i (Ok j) = j
past_or_next i (Err j) = i + 1

-- where code goes on behind what stands at a place: a string that ends on its line, a character, or one byte
abbrev pub code_next : List ℕ → ℕ → ℕ
code_next t i =
    if stands (codes "\"") t i then past_or_next i (past_in_line 34 t (i + 1))
    else if stands (codes "'") t i then place_or (i + 1) (past_character t i)
    else i + 1

-- just past the `=}` that ends code, within so many steps
unfoldable pub code_within : ℕ → List ℕ → ℕ → Option ℕ
code_within zero t i = None
code_within (suc n) t i = if stands (codes "=}") t i then Some (i + 2) else code_within n t (code_next t i)

-- just past the first `=}` that stands in no string and no character; each step takes a byte at least
abbrev pub past_code : List ℕ → ℕ → Option ℕ
past_code t i = code_within (length t) t i

-- ---- numbers
-- the value of a digit, also of a hexadecimal one; 0 for another byte
abbrev pub digit_value : ℕ → ℕ
digit_value b = if is_digit b then b - 48 else if within 97 102 b then b - 87 else if within 65 70 b then b - 55 else 0

-- the number that digits write to a base behind those that write n
abbrev pub digits_from : ℕ → ℕ → List ℕ → ℕ
digits_from base n digits = fold (λ m b. m * base + digit_value b) n digits

-- the number that digits write to a base, or 2^64 - 1 where it is larger
abbrev pub number_of : ℕ → List ℕ → ℕ
number_of base digits = min (digits_from base 0 digits) (2 ^ 64 - 1)

-- just past an exponent, where one stands
unfoldable pub past_exponent : List ℕ → ℕ → ℕ
past_exponent t i =
    if not (stands (codes "e") t i || stands (codes "E") t i) then i
    else if sees is_digit t (i + 1) then run_end is_digit t (i + 1)
    else if (stands (codes "+") t (i + 1) || stands (codes "-") t (i + 1)) && sees is_digit t (i + 2) then run_end is_digit t (i + 2)
    else i

-- just past an `f` or `F`, where one stands
abbrev pub past_suffix : List ℕ → ℕ → ℕ
past_suffix t i = if stands (codes "f") t i || stands (codes "F") t i then i + 1 else i

-- just past a decimal number whose point stands at a place, with digits behind it
unfoldable pub past_decimal : List ℕ → ℕ → ℕ
past_decimal t i = past_suffix t (past_exponent t (run_end is_digit t (i + 1)))

-- whether a hexadecimal number begins at a place
abbrev pub begins_hexadecimal : List ℕ → ℕ → Bool
begins_hexadecimal t i = (stands (codes "0x") t i || stands (codes "0X") t i) && sees is_hexadecimal t (i + 2)

-- the number that the digits to a base write from a place up to another
abbrev pub number_between : List ℕ → ℕ → ℕ → ℕ → TokenKind × ℕ
number_between t base i j = (kinds.Number (number_of base (slice_range t i j)), j)

-- a number without a point and an exponent, whose decimal digits end at j
unfoldable pub whole_number : List ℕ → ℕ → ℕ → TokenKind × ℕ
whole_number t i j = if begins_hexadecimal t i then number_between t 16 (i + 2) (run_end is_hexadecimal t (i + 2)) else number_between t 10 i j

-- whether the point of a decimal number stands at a place, with a digit behind it
abbrev pub sees_fraction : List ℕ → ℕ → Bool
sees_fraction t i = stands (codes ".") t i && sees is_digit t (i + 1)

-- a number whose first digits end at j
abbrev pub number_behind : List ℕ → ℕ → ℕ → TokenKind × ℕ
number_behind t i j =
    if sees_fraction t j then (kinds.Decimal, past_decimal t j)
    else if nat_lt j (past_exponent t j) then (kinds.Decimal, past_exponent t j)
    else whole_number t i j

-- what begins with a digit, and where it ends
unfoldable pub number_at : List ℕ → ℕ → TokenKind × ℕ
number_at t i = number_behind t i (run_end is_digit t i)

-- ---- pieces
-- a kind, which white space and remarks have not, and the place behind it
abbrev pub Piece : Type 0
Piece = Option TokenKind × ℕ

-- a token that ends there
abbrev pub as_token : TokenKind → ℕ → Piece
as_token kind j = (Some kind, j)

-- white space or a remark that ends there
abbrev pub as_remark : ℕ → Piece
as_remark j = (None, j)

-- an arrow, or one printable byte
unfoldable pub symbol_at : List ℕ → ℕ → Option Piece
symbol_at t i =
    if stands (codes "->") t i then Some (as_token kinds.Arrow (i + 2))
    else if stands (codes "~>") t i then Some (as_token kinds.TildeArrow (i + 2))
    else if sees (within 33 126) t i then Some (as_token (kinds.Symbol (slice_index t i)) (i + 1))
    else None

-- characters that end on their line; else their quote is a symbol, and refused where an escaped quote is behind it
abbrev pub characters : List ℕ → ℕ → Result ℕ ℕ → Option Piece
characters t i (Ok j) = Some (as_token kinds.Text j)
characters t i (Err j) = if is_some (first (stands (codes "'") t) (j - (i + 1)) (i + 1)) then None else symbol_at t i

-- characters whose quote stands at a place
unfoldable pub characters_at : List ℕ → ℕ → Option Piece
characters_at t i = characters t i (past_in_line 39 t (i + 1))

-- just past a remark between `'''`, if it is closed
abbrev pub past_long_remark : List ℕ → ℕ → Option ℕ
past_long_remark t i = if stands (codes "'''") t i then past (codes "'''") t (i + 3) else None

-- a remark that ends there, or else this piece
abbrev pub remark_or : Option Piece → Option ℕ → Option Piece
remark_or other None = other
remark_or other (Some j) = Some (as_remark j)

-- what begins with the quote of a character: a remark between `'''`, or characters
unfoldable pub quote_at : List ℕ → ℕ → Option Piece
quote_at t i = remark_or (characters_at t i) (past_long_remark t i)

-- just past a string between `"""` or between `"` that begins at a place
unfoldable pub string_end : List ℕ → ℕ → Option ℕ
string_end t i = if stands (codes "\"\"\"") t i then past_string (codes "\"\"\"") t (i + 3) else past_string (codes "\"") t (i + 1)

-- what begins at a place, and where it ends; nothing where it begins nothing, or isn't closed
unfoldable pub piece_at : List ℕ → ℕ → Option Piece
piece_at t i =
    if sees is_gap t i then Some (as_remark (i + 1))
    else if stands (codes "#") t i || stands (codes "//") t i then Some (as_remark (run_end is_in_line t (i + 1)))
    else if stands (codes "/*") t i then option_map as_remark (past (codes "*/") t (i + 2))
    else if stands (codes "{=") t i then option_map (as_token kinds.Code) (past_code t (i + 2))
    else if stands (codes "\"") t i then option_map (as_token kinds.Text) (string_end t i)
    else if stands (codes "'") t i then quote_at t i
    else if sees is_letter t i then Some (as_token kinds.Name (run_end is_word t i))
    else if sees is_digit t i then Some (as_token (number_at t i).0 (number_at t i).1)
    else if sees_fraction t i then Some (as_token kinds.Decimal (past_decimal t i))
    else symbol_at t i

-- ---- the whole text
-- the token of a piece, if it is one, in front of the tokens behind it
abbrev pub in_front : ℕ → Piece → Result (List Token) TextFault → Result (List Token) TextFault
in_front i (None, j) tokens = tokens
in_front i (Some kind, j) (Ok tokens) = Ok (record { kind = kind; start = i; end = j } ∷ tokens)
in_front i (Some kind, j) (Err e) = Err e

-- the piece at a place, and what is read behind it
abbrev pub go_on : ℕ → Option Piece → (ℕ → Result (List Token) TextFault) → Result (List Token) TextFault
go_on i None behind = Err (faults.BadText i)
go_on i (Some piece) behind = in_front i piece (behind piece.1)

-- the tokens from a place on, within so many pieces
unfoldable pub tokens_within : ℕ → List ℕ → ℕ → Result (List Token) TextFault
tokens_within zero t i = Ok []
tokens_within (suc n) t i = if nat_le (length t) i then Ok [] else go_on i (piece_at t i) (tokens_within n t)

-- the tokens of a text, or the first byte that begins none; each piece takes a byte at least
unfoldable pub tokens_of : List ℕ → Result (List Token) TextFault
tokens_of t = tokens_within (length t) t 0
