-- What is known of the tokens of a text.
use Rattle.std.proofs.Common.{◌≡◌, ℕ, ◌+◌, ◌-◌, ◌<◌, ◌≤◌, true, List, length, get_or, drop, Some, None, IsAscii, refl, sym, ap, subst, ◌∙◌, arith, length-take, length-drop}
use Rattle.std.specs.Prelude.{slice_get, slice_index, slice_range}
use Rattle.std.specs.List.{All}
use Rattle.std.proofs.lemmas.{List.{get_or-take, get_or-drop, Elements.{All-nil, All-cons, All-get_or}}, Option.{slice_get_within, get_or_from_slice_get}}
use Rattle.std.proofs.lemmas.{Str.Ascii.IsAscii-from_reads, Bool.Decides.nat_tests}
use Rattle.lft_syntax.specs.declared.token.{Token.Token, TokenKind.TokenKind}
use Rattle.lft_syntax.specs.declared.form.Form.{Form, TheVariants.{Space, LineComment, StarComment, Code, Text, Name, Digits, Arrow, Symbol, Unknown}}
use Rattle.lft_syntax.specs.{inner.Seen.OfLetters, View.lexeme_from, Lexes.{Run, form_of, Reads, Piece, Cut, done, piece, Lexes}}
use Rattle.lft_syntax.proofs.Pieces.{Begins, begins, read_there, piece_further, piece_within}
use Rattle.lft_lists.specs.Bytes.{is_letter, is_word}
use Rattle.lft_syntax.specs.declared.token.TokenKind.TheVariants as kinds

-- a token lies in the text and isn't empty, and a name begins with a letter or underscore and has letters, digits and underscores alone
pub record InText (t : List ℕ) (k : Token) : Type 0 where
  pub order : k.start < k.end
  pub within : k.end ≤ length t
  pub first : k.kind ≡ kinds.Name → is_letter (slice_index t k.start) ≡ true
  pub letters : k.kind ≡ kinds.Name → (j : ℕ) → k.start ≤ j → j < k.end → is_word (slice_index t j) ≡ true

-- the letters of a token are such, if those of a name are
pub letters_of : (P : List ℕ → Type 0) (kind : TokenKind) (bytes : List ℕ) → (kind ≡ kinds.Name → P bytes) → OfLetters P (lexeme_from kind bytes)
letters_of P kinds.Name bytes are = are refl
letters_of P _ bytes are = tt

named : (t : List ℕ) (i b : ℕ) (f : Form) (j : ℕ) (kind : TokenKind) → Reads t i b f j (Some kind) → kind ≡ kinds.Name → Run is_word t i j
named t i b Space j kind r e = let n = r.1 in cc
named t i b LineComment j kind r e = let n = r.1 in cc
named t i b StarComment j kind r e = let n = r.1 in cc
named t i b Code j kind r e = let n = r.1 in cc
named t i b Text j kind r e = let n = r.1 in cc
named t i b Name j kind r e = r.0
named t i b Digits j kind r e = let n = r.2 in cc
named t i b Arrow j kind r e = let n = r.1 in cc
named t i b Symbol j kind r e = let n = r.1 in cc
named t i b Unknown j kind r e = absurd r

lettered : (t : List ℕ) (i b : ℕ) (f : Form) (j : ℕ) (kind : TokenKind) → Begins b (slice_get t (i + 1)) f → Reads t i b f j (Some kind) → kind ≡ kinds.Name → is_letter b ≡ true
lettered t i b Space j kind h r e = let n = r.1 in cc
lettered t i b LineComment j kind h r e = let n = r.1 in cc
lettered t i b StarComment j kind h r e = let n = r.1 in cc
lettered t i b Code j kind h r e = let n = r.1 in cc
lettered t i b Text j kind h r e = let n = r.1 in cc
lettered t i b Name j kind h r e = h
lettered t i b Digits j kind h r e = let n = r.2 in cc
lettered t i b Arrow j kind h r e = let n = r.1 in cc
lettered t i b Symbol j kind h r e = let n = r.1 in cc
lettered t i b Unknown j kind h r e = absurd r

piece_token : (t : List ℕ) (i m : ℕ) (kind : TokenKind) → Piece t i (Some kind) m → InText t (record { kind = kind; start = i; end = m })
piece_token t i m kind p = record {
  order = piece_further t i (Some kind) m p;
  within = piece_within t i (Some kind) m p;
  first = λ e. ap is_letter (read_there t i p.byte p.there) ∙ lettered t i p.byte (form_of p.byte (slice_get t (i + 1))) m kind (begins p.byte (slice_get t (i + 1))) p.reads e;
  letters = λ e j. let run = named t i p.byte (form_of p.byte (slice_get t (i + 1))) m kind p.reads e in run.each j;
}

pub cut_tokens : (t : List ℕ) {i j : ℕ} {tokens : List Token} → Cut t i tokens j → All (InText t) tokens
cut_tokens t done = All-nil (InText t)
cut_tokens t (piece {kind = None} p rest) = cut_tokens t rest
cut_tokens t (piece {i = i} {m = m} {kind = Some kind} {tokens = tokens} p rest) = All-cons (InText t) (record { kind = kind; start = i; end = m }) tokens (piece_token t i m kind p) (cut_tokens t rest)

-- each token of a text lies in it
pub token_at : (t : List ℕ) (tokens : List Token) (n : ℕ) (k : Token) → Lexes t tokens → slice_get tokens n ≡ Some k → InText t k
token_at t tokens n k whole there =
    subst (λ (x : Token). InText t x) (get_or_from_slice_get tokens n k k there) (All-get_or (InText t) tokens n k (slice_get_within tokens n k there) (cut_tokens t whole))

pub word_ascii : (b : ℕ) → is_word b ≡ true → b < 128
word_ascii b h = grind (arith, nat_tests)

range_ascii : (t : List ℕ) (i j : ℕ) → i ≤ j → j ≤ length t → ((k : ℕ) → i ≤ k → k < j → is_word (slice_index t k) ≡ true) → IsAscii (slice_range t i j)
range_ascii t i j order within letters = IsAscii-from_reads (slice_range t i j) (j - i) (omega (arith, length-take (j - i) (drop i t), length-drop i t))
    (λ k lt. subst (λ (n : ℕ). n < 128) (sym (get_or-take (j - i) (drop i t) k 0 lt ∙ get_or-drop i t k 0)) (word_ascii (get_or t (i + k) 0) (letters (i + k) (omega arith) (omega arith))))

-- the bytes of a name are ASCII, and so UTF-8
pub in_text_ascii : (t : List ℕ) (k : Token) → InText t k → k.kind ≡ kinds.Name → IsAscii (slice_range t k.start k.end)
in_text_ascii t k h e = let order = h.order in range_ascii t k.start k.end (omega arith) h.within (h.letters e)

pub name_ascii : (t : List ℕ) (tokens : List Token) (n : ℕ) (k : Token) → Lexes t tokens → slice_get tokens n ≡ Some k → k.kind ≡ kinds.Name → IsAscii (slice_range t k.start k.end)
name_ascii t tokens n k whole there e = in_text_ascii t k (token_at t tokens n k whole there) e
