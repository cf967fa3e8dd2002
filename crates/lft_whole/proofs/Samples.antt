-- What is read of some texts, as a check of the definitions.
use Rattle.std.proofs.Common.{◌≡◌, ℕ, List, [], ◌∷◌, Result, Ok, Err, refl}
use Rattle.std.specs.Prelude.{codes}
use Rattle.lft_syntax.specs.declared.token.{Token.Token, TokenKind.{TokenKind, TheVariants.{Code, Text, Name, Number, Decimal, Arrow, Symbol}}}
use Rattle.lft_whole.specs.declared.fault.TextFault.{TextFault, TheVariants.BadText}
use Rattle.lft_whole.specs.Pieces.{first, run_end, is_escaped, code_within, past_exponent, past_decimal, whole_number, number_at, symbol_at, characters_at, quote_at, string_end, piece_at, tokens_within, tokens_of}

abbrev read : List Token → Result (List Token) TextFault
read tokens = Ok tokens

abbrev refused : ℕ → Result (List Token) TextFault
refused i = Err (BadText i)

abbrev token : TokenKind → ℕ → ℕ → Token
token kind start end = record { kind = kind; start = start; end = end }

-- a remark with a star in it
remark : tokens_of (codes "/***/") ≡ read []
unfolding first run_end is_escaped code_within past_exponent past_decimal whole_number number_at symbol_at characters_at quote_at string_end piece_at tokens_within tokens_of
remark = refl

-- a hexadecimal number behind an arrow
hexadecimal : tokens_of (codes "a->0x1F") ≡ read (token Name 0 1 ∷ token Arrow 1 3 ∷ token (Number 31) 3 7 ∷ [])
unfolding first run_end is_escaped code_within past_exponent past_decimal whole_number number_at symbol_at characters_at quote_at string_end piece_at tokens_within tokens_of
hexadecimal = refl

-- a number with a point, an exponent and a suffix
decimal : tokens_of (codes "1.5e3f") ≡ read (token Decimal 0 6 ∷ [])
unfolding first run_end is_escaped code_within past_exponent past_decimal whole_number number_at symbol_at characters_at quote_at string_end piece_at tokens_within tokens_of
decimal = refl

-- an escaped quote in a string
escaped : tokens_of (codes "\"\\\"\"") ≡ read (token Text 0 4 ∷ [])
unfolding first run_end is_escaped code_within past_exponent past_decimal whole_number number_at symbol_at characters_at quote_at string_end piece_at tokens_within tokens_of
escaped = refl

-- what ends code, in a string of the code
code : tokens_of (codes "{=\"=}\"=}") ≡ read (token Code 0 8 ∷ [])
unfolding first run_end is_escaped code_within past_exponent past_decimal whole_number number_at symbol_at characters_at quote_at string_end piece_at tokens_within tokens_of
code = refl

-- a quote alone is a symbol
quote : tokens_of (codes "'a") ≡ read (token (Symbol 39) 0 1 ∷ token Name 1 2 ∷ [])
unfolding first run_end is_escaped code_within past_exponent past_decimal whole_number number_at symbol_at characters_at quote_at string_end piece_at tokens_within tokens_of
quote = refl

-- a string that isn't closed
open_string : tokens_of (codes "a \"b") ≡ refused 2
unfolding first run_end is_escaped code_within past_exponent past_decimal whole_number number_at symbol_at characters_at quote_at string_end piece_at tokens_within tokens_of
open_string = refl
