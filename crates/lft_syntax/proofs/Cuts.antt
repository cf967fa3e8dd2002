-- A cutting that grows by pieces at its end.
use Rattle.std.proofs.Common.{◌≡◌, ℕ, List, [], ◌∷◌, ◌++◌, ◌≤◌, length, Option, Some, None, refl, subst, append_assoc}
use Rattle.std.proofs.lemmas.List.{append-nil}
use Rattle.lft_syntax.specs.declared.{token.{Token.Token, TokenKind.TokenKind}, form.Form.{Form, TheVariants.{StarComment, Code, Text, Digits}}}
use Rattle.lft_syntax.specs.declared.fault.LexFault.{LexFault}
use Rattle.lft_syntax.specs.Lexes.{Piece, Cut, done, piece, Lexes, IsFault, FaultAt, Faults, IsRefusedAt, LexFails}
use Rattle.lft_syntax.proofs.Once.{cut_once, fault_or_cut, fault_once}
use Rattle.lft_syntax.specs.declared.fault.LexFault.TheVariants as faults

-- the text up to i is cut into these tokens, whatever follows
pub record Front (t : List ℕ) (i : ℕ) (tokens : List Token) : Type 0 where
  pub onto : (rest : List Token) (j : ℕ) → Cut t i rest j → Cut t 0 (tokens ++ rest) j

pub front_blank : (t : List ℕ) (i m : ℕ) (kind : Option TokenKind) (tokens : List Token) → kind ≡ None → Piece t i kind m → Front t i tokens → Front t m tokens
front_blank t i m kind tokens e p front = record { onto = λ rest j cut. front.onto rest j (piece (subst (λ (k : Option TokenKind). Piece t i k m) e p) cut) }

pub front_token : (t : List ℕ) (i m : ℕ) (kind : TokenKind) (tokens : List Token) → Piece t i (Some kind) m → Front t i tokens → Front t m (tokens ++ (record { kind = kind; start = i; end = m } ∷ []))
front_token t i m kind tokens p front = record { onto = λ rest j cut. rw append_assoc (front.onto (record { kind = kind; start = i; end = m } ∷ rest) j (piece p cut)) }

-- the tokens with one more piece behind them
pub front_piece : (t : List ℕ) (i m : ℕ) (kind : Option TokenKind) (tokens : List Token) → Piece t i kind m → Front t i tokens → (more : List Token) × Front t m more
front_piece t i m None tokens p front = (tokens, front_blank t i m None tokens refl p front)
front_piece t i m (Some kind) tokens p front = (tokens ++ (record { kind = kind; start = i; end = m } ∷ []), front_token t i m kind tokens p front)

pub front_refused : (t : List ℕ) (i : ℕ) (tokens : List Token) (fault : LexFault) → Front t i tokens → FaultAt t i fault → IsRefusedAt t i
front_refused t i tokens fault front at = (fault, tokens ++ [], front.onto [] i done, at)

-- the whole text is cut
pub front_whole : (t : List ℕ) (i : ℕ) (tokens : List Token) → i ≡ length t → Front t i tokens → Lexes t tokens × ((other : List Token) → Lexes t other → other ≡ tokens)
front_whole t i tokens e front =
    let all : Lexes t (tokens ++ []) = front.onto [] (length t) (subst (λ (n : ℕ). Cut t i [] n) e done) in
    let whole : Lexes t tokens = subst (λ (l : List Token). Lexes t l) (append-nil tokens) all in
    (whole, λ other cut. cut_once t cut refl whole refl)

not_too_long : (t : List ℕ) (i : ℕ) (f : Form) → IsFault t i f faults.TooLong → ⊥
not_too_long t i StarComment p = p
not_too_long t i Code p = p
not_too_long t i Text p = p
not_too_long t i Digits p = p
not_too_long t i _ p = p

first_fault : (t : List ℕ) (i : ℕ) (tokens : List Token) (fault : LexFault) → Front t i tokens → FaultAt t i fault → Faults t fault × ((other : LexFault) → Faults t other → other ≡ fault) × ((other : List Token) → Lexes t other → ⊥)
first_fault t i tokens fault front at =
    let found : Faults t fault = (i, tokens ++ [], front.onto [] i done, at) in
    (found, λ other there. fault_once t other fault there found, λ other whole. fault_or_cut t fault other found whole)

pub front_fault : (t : List ℕ) (i : ℕ) (tokens : List Token) (fault : LexFault) → length t ≤ 1048576 → Front t i tokens → FaultAt t i fault → LexFails t fault
front_fault t i tokens faults.TooLong short front at = absurd (not_too_long t i _ at.refused)
front_fault t i tokens faults.NoMemory short front at = tt
front_fault t i tokens fault short front at = let first = first_fault t i tokens fault front at in (first.0, first.1, first.2, short)

pub not_some : {A : Type 0} (o : Option A) → ((x : A) → o ≡ Some x → ⊥) → o ≡ None
not_some None none = refl
not_some (Some x) none = absurd (none x refl)
