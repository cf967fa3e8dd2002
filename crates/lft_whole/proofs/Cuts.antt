-- The tokens so far, and those that are read from a place on.
use Rattle.std.proofs.Common.{◌≡◌, ℕ, zero, suc, ◌+◌, ◌<◌, ◌≤◌, true, false, List, [], ◌∷◌, ◌++◌, length, Option, Some, None, Result, Ok, Err, refl, sym, ap, ◌∙◌, append_assoc, arith}
use Rattle.std.specs.Prelude.{nat_le}
use Rattle.std.proofs.lemmas.List.{append-nil}
use Rattle.lft_syntax.specs.declared.token.{Token.Token, TokenKind.TokenKind}
use Rattle.lft_whole.specs.{declared.fault.TextFault.TextFault, Pieces.{Piece, in_front, go_on, piece_at, tokens_within, tokens_of}}
use Rattle.lft_whole.specs.declared.fault.TextFault.TheVariants as faults

abbrev pub Lexed : Type 0
Lexed = Result (List Token) TextFault

abbrev pub behind : List Token → Lexed → Lexed
behind front (Ok tokens) = Ok (front ++ tokens)
behind front (Err e) = Err e

-- the tokens so far, and those that are left, are all
pub record Front (t : List ℕ) (tokens : List Token) (i : ℕ) : Type 0 where
  pub left : ℕ
  pub enough : length t ≤ i + left
  pub rest : behind tokens (tokens_within left t i) ≡ tokens_of t

behind_none : (r : Lexed) → behind [] r ≡ r
behind_none (Ok tokens) = refl
behind_none (Err e) = refl

pub front_starts : (t : List ℕ) → Front t [] 0
unfolding tokens_of
front_starts t = record { left = length t; enough = omega arith; rest = behind_none (tokens_within (length t) t 0) }

-- what is left at a place inside the text
inside : (t : List ℕ) (i n : ℕ) → i < length t → tokens_within (suc n) t i ≡ go_on i (piece_at t i) (tokens_within n t)
unfolding tokens_within
inside t i n lt = let more : nat_le (length t) i ≡ false = grind arith in rw more refl

one_more : (t : List ℕ) (tokens : List Token) (i j n : ℕ) (kind : Option TokenKind) → i < length t → piece_at t i ≡ Some (kind, j) → behind tokens (tokens_within (suc n) t i) ≡ behind tokens (in_front i (kind, j) (tokens_within n t j))
one_more t tokens i j n kind lt p = ap (behind tokens) (inside t i n lt ∙ ap (λ (o : Option Piece). go_on i o (tokens_within n t)) p)

-- a token is read
pushed : (tokens : List Token) (x : Token) (r : Lexed) → behind tokens (in_front x.start (Some x.kind, x.end) r) ≡ behind (tokens ++ x ∷ []) r
pushed tokens x (Ok xs) = ap (let f : List Token → Lexed = λ ys. Ok ys in f) (simp append_assoc)
pushed tokens x (Err e) = refl

token_read : (t : List ℕ) (tokens : List Token) (x : Token) (n : ℕ) → x.start < length t → length t ≤ x.start + n → behind tokens (tokens_within n t x.start) ≡ tokens_of t
    → piece_at t x.start ≡ Some (Some x.kind, x.end) → x.start < x.end → Front t (tokens ++ x ∷ []) x.end
token_read t tokens x zero lt enough rest p further = absurd (omega arith)
token_read t tokens x (suc n) lt enough rest p further =
    record { left = n; enough = omega arith; rest = sym (one_more t tokens x.start x.end n (Some x.kind) lt p ∙ pushed tokens x (tokens_within n t x.end)) ∙ rest }

pub front_token : (t : List ℕ) (tokens : List Token) (x : Token) → Front t tokens x.start → x.start < length t → piece_at t x.start ≡ Some (Some x.kind, x.end) → x.start < x.end → Front t (tokens ++ x ∷ []) x.end
front_token t tokens x f lt p further = token_read t tokens x f.left lt f.enough f.rest p further

-- white space or a remark is passed
blank_read : (t : List ℕ) (tokens : List Token) (i j n : ℕ) → i < length t → length t ≤ i + n → behind tokens (tokens_within n t i) ≡ tokens_of t → piece_at t i ≡ Some (None, j) → i < j → Front t tokens j
blank_read t tokens i j zero lt enough rest p further = absurd (omega arith)
blank_read t tokens i j (suc n) lt enough rest p further = record { left = n; enough = omega arith; rest = sym (one_more t tokens i j n None lt p) ∙ rest }

pub front_blank : (t : List ℕ) (tokens : List Token) (i j : ℕ) → Front t tokens i → i < length t → piece_at t i ≡ Some (None, j) → i < j → Front t tokens j
front_blank t tokens i j f lt p further = blank_read t tokens i j f.left lt f.enough f.rest p further

-- nothing begins here
refused : (t : List ℕ) (tokens : List Token) (i n : ℕ) → i < length t → length t ≤ i + n → behind tokens (tokens_within n t i) ≡ tokens_of t → piece_at t i ≡ None → tokens_of t ≡ Err (faults.BadText i)
refused t tokens i zero lt enough rest p = absurd (omega arith)
refused t tokens i (suc n) lt enough rest p = sym rest ∙ ap (behind tokens) (inside t i n lt ∙ ap (λ (o : Option Piece). go_on i o (tokens_within n t)) p)

pub front_refused : (t : List ℕ) (tokens : List Token) (i : ℕ) → Front t tokens i → i < length t → piece_at t i ≡ None → tokens_of t ≡ Err (faults.BadText i)
front_refused t tokens i f lt p = refused t tokens i f.left lt f.enough f.rest p

-- the text is read
at_end : (t : List ℕ) (i n : ℕ) → length t ≤ i → tokens_within n t i ≡ Ok []
unfolding tokens_within
at_end t i zero le = refl
at_end t i (suc n) le = let past : nat_le (length t) i ≡ true = grind arith in rw past refl

pub front_whole : (t : List ℕ) (tokens : List Token) (i : ℕ) → Front t tokens i → length t ≤ i → tokens_of t ≡ Ok tokens
front_whole t tokens i f le = sym f.rest ∙ ap (behind tokens) (at_end t i f.left le) ∙ ap (let g : List Token → Lexed = λ ys. Ok ys in g) (append-nil tokens)
