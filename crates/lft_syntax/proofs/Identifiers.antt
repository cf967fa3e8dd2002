-- Each name among the tokens of a text is an identifier.
use Rattle.std.proofs.Common.{◌≡◌, ℕ, suc, ◌+◌, ◌-◌, ◌<◌, ◌≤◌, true, List, [], ◌∷◌, length, get_or, drop, refl, ap, ◌∙◌, arith, length-take, length-drop}
use Rattle.std.specs.Prelude.{slice_index, slice_range}
use Rattle.std.{specs.List.All, proofs.lemmas.List.{get_or-take, get_or-drop, Elements.{All-from_get_or, All-map, All-weaker}}}
use Rattle.lft_syntax.specs.{declared.token.{Token.Token, TokenKind.TokenKind}, Lexeme.{Lexeme, Letters}, Lexes.Lexes, View.{lexeme_from, lexeme_of, lexemes}}
use Rattle.lft_syntax.proofs.TokenFacts.{InText, cut_tokens}
use Rattle.lft_lists.specs.Bytes.{is_letter, is_word}
use Rattle.lft_tree.specs.Identifiers.{IsIdentifier}
use Rattle.lft_syntax.specs.declared.token.TokenKind.TheVariants as kinds

-- if it is a name or a reserved word, it is an identifier
abbrev pub IsWord : Lexeme → Type 0
IsWord (Letters x) = IsIdentifier x
IsWord _ = Unit {0}

identifier_from : (xs : List ℕ) → 0 < length xs → is_letter (get_or xs 0 0) ≡ true → ((k : ℕ) → k < length xs → is_word (get_or xs k 0) ≡ true) → IsIdentifier xs
identifier_from [] some letter words = absurd (omega arith)
identifier_from (c ∷ cs) some letter words = (letter, All-from_get_or (λ d. is_word d ≡ true) cs 0 (λ k lt. words (suc k) (omega arith)))

plus_zero : (i : ℕ) → i + 0 ≡ i
plus_zero i = omega arith

-- letters and digits, the first a letter, are an identifier
pub range_identifier : (t : List ℕ) (i j : ℕ) → i < j → j ≤ length t → is_letter (slice_index t i) ≡ true → ((k : ℕ) → i ≤ k → k < j → is_word (slice_index t k) ≡ true) → IsIdentifier (slice_range t i j)
range_identifier t i j order within letter words =
    let long : length (slice_range t i j) ≡ j - i = omega (arith, length-take (j - i) (drop i t), length-drop i t) in
    let byte : (k : ℕ) → k < j - i → get_or (slice_range t i j) k 0 ≡ get_or t (i + k) 0 = λ k lt. get_or-take (j - i) (drop i t) k 0 lt ∙ get_or-drop i t k 0 in
    identifier_from (slice_range t i j) (omega (arith, long)) (ap is_letter (byte 0 (omega arith)) ∙ ap (λ n. is_letter (slice_index t n)) (plus_zero i) ∙ letter)
    (λ k lt. ap is_word (byte k (omega (arith, long))) ∙ words (i + k) (omega arith) (omega (arith, long)))

kind_word : (kind : TokenKind) (bytes : List ℕ) → (kind ≡ kinds.Name → IsIdentifier bytes) → IsWord (lexeme_from kind bytes)
kind_word kinds.Name bytes named = named refl
kind_word _ bytes named = tt

token_word : (t : List ℕ) (token : Token) → InText t token → IsWord (lexeme_of t token)
token_word t token h = kind_word token.kind (slice_range t token.start token.end) (λ e. range_identifier t token.start token.end h.order h.within (h.first e) (h.letters e))

-- each name and each reserved word of a text is an identifier
pub words_of_text : (t : List ℕ) (tokens : List Token) → Lexes t tokens → All IsWord (lexemes t tokens)
unfolding lexemes
words_of_text t tokens whole = All-map IsWord (lexeme_of t) tokens (All-weaker (InText t) (λ token. IsWord (lexeme_of t token)) (token_word t) tokens (cut_tokens t whole))
