-- The words that the grammar of whole texts is written in. It reads from left to right, and what stands at a
-- place decides which of two goes on.
use Rattle.std.specs.Prelude.{ℕ, zero, suc, ◌+◌, ◌-◌, List, [], ◌∷◌, ◌++◌, length, Option, Some, None, Result, Ok, Err, Bool, not, ◌&&◌, ◌||◌, ◌==◌, if◌then◌else◌}
use Rattle.lft_syntax.specs.{Lexeme.{Lexeme, Letters, Symbol, is, is_there}, Language.look}
use Rattle.lft_whole.specs.{declared.fault.TreeFault.{TreeFault, TheVariants.Unexpected}, Parts.Lexeme.{Source, see}}

-- from a place on: a value and the place behind it, or why there is none
abbrev pub Reader : Type 0 → Type 0
Reader A = Source → ℕ → Result (A × ℕ) TreeFault

infixl 10 ◌>>=◌
-- go on with what was read, if it was
abbrev pub ◌>>=◌ : {A B : Type 0} → Result A TreeFault → (A → Result B TreeFault) → Result B TreeFault
(Ok x) >>= f = f x
(Err e) >>= f = Err e

-- ---- what stands at a place

-- whether something stands there
abbrev pub Test : Type 0
Test = Source → ℕ → Bool

-- such a token
abbrev pub on : (Option Lexeme → Bool) → Test
on passes s i = passes (see s i)

-- this sign, by its byte
abbrev pub sign : ℕ → Test
sign byte = on (is (Symbol byte))

-- this word, reserved or not
abbrev pub word : List ℕ → Test
word letters = on (is (Letters letters))

-- the token behind it
abbrev pub next : Test → Test
next t s i = t s (i + 1)

infixr 7 ◌and◌
infixr 6 ◌or◌
-- both tests pass
abbrev pub ◌and◌ : Test → Test → Test
(t and u) s i = t s i && u s i

-- one of the tests passes
abbrev pub ◌or◌ : Test → Test → Test
(t or u) s i = t s i || u s i

-- the test fails
abbrev pub isnt : Test → Test
isnt t s i = not (t s i)

-- ---- one token

-- what is seen in the token at a place, and the place behind it
abbrev pub seen_at : {A : Type 0} → Option A → ℕ → Result (A × ℕ) TreeFault
seen_at None i = Err (Unexpected i)
seen_at (Some x) i = Ok (x, i + 1)

-- a token in which a value is seen
abbrev pub token : {A : Type 0} → (Lexeme → Option A) → Reader A
token in_it s i = seen_at (look in_it (see s i)) i

-- a token that passes
abbrev pub one : Test → Reader (Unit {0})
one t s i = if t s i then Ok (tt, i + 1) else Err (Unexpected i)

-- this sign
abbrev pub symbol : ℕ → Reader (Unit {0})
symbol byte = one (sign byte)

-- this word
abbrev pub key : List ℕ → Reader (Unit {0})
key letters = one (word letters)

-- the token here, which has been tested
abbrev pub this : Reader (Unit {0})
this s i = Ok (tt, i + 1)

-- whether a token that passes stands there: if so, it is read
abbrev pub flag : Test → Reader Bool
flag t s i = Ok (t s i, if t s i then i + 1 else i)

-- it stands ahead, and is left
abbrev pub ahead : Test → Reader (Unit {0})
ahead t s i = if t s i then Ok (tt, i) else Err (Unexpected i)

-- ---- one after the other

infixl 5 ◌&◌
infixl 5 ◌>>◌
infixl 5 ◌<<◌
infixl 5 ◌then◌
-- the values of both
abbrev pub ◌&◌ : {A B : Type 0} → Reader A → Reader B → Reader (A × B)
(P & Q) s i = P s i >>= λ a. Q s a.1 >>= λ b. Ok ((a.0, b.0), b.1)

-- the value of the second
abbrev pub ◌>>◌ : {A B : Type 0} → Reader A → Reader B → Reader B
(P >> Q) s i = P s i >>= λ a. Q s a.1

-- the value of the first
abbrev pub ◌<<◌ : {A B : Type 0} → Reader A → Reader B → Reader A
(P << Q) s i = P s i >>= λ a. Q s a.1 >>= λ b. Ok (a.0, b.1)

-- the second is chosen by the value of the first
abbrev pub ◌then◌ : {A B : Type 0} → Reader A → (A → Reader B) → Reader B
(P then Q) s i = P s i >>= λ a. Q a.0 s a.1

-- ---- values

-- nothing is read
abbrev pub nothing : {A : Type 0} → A → Reader A
nothing x s i = Ok (x, i)

-- what is made of the value
abbrev pub made : {A B : Type 0} → (A → B) → Reader A → Reader B
made f P s i = P s i >>= λ a. Ok (f a.0, a.1)

-- the same of the value and of the place where it begins
abbrev pub made_at : {A B : Type 0} → (ℕ → A → B) → Reader A → Reader B
made_at f P s i = P s i >>= λ a. Ok (f i a.0, a.1)

-- what is read has no value
abbrev pub ignored : {A : Type 0} → Reader A → Reader (Unit {0})
ignored P s i = P s i >>= λ a. Ok (tt, a.1)

-- a value that must be there
abbrev pub present : {A : Type 0} → Option A → ℕ → ℕ → Result (A × ℕ) TreeFault
present None i j = Err (Unexpected i)
present (Some x) i j = Ok (x, j)

-- a value that may be left out, but not here
abbrev pub needed : {A : Type 0} → Reader (Option A) → Reader A
needed P s i = P s i >>= λ a. present a.0 i a.1

-- ---- choice

-- the first where the test passes, the second elsewhere
abbrev pub choice : {A : Type 0} → Test → Reader A → Reader A → Reader A
choice t P Q s i = if t s i then P s i else Q s i

-- a value where the test passes, and none elsewhere
abbrev pub optional : {A : Type 0} → Test → Reader A → Reader (Option A)
optional t P = choice t (made Some P) (nothing None)

-- passed where it stands
abbrev pub passed : Test → Reader (Unit {0}) → Reader (Unit {0})
passed t P = choice t P (nothing tt)

-- ---- over and over

-- while the test passes, at most so many times: the next step goes on with what is known
unfoldable pub steps : {B : Type 0} → (B → Test) → (B → Reader B) → ℕ → B → Reader B
steps t P zero b s i = Err (Unexpected i)
steps t P (suc n) b s i = if t b s i then (P b s i >>= λ a. steps t P n a.0 s a.1) else Ok (b, i)

-- each step reads a token at least, so that there are no more steps than tokens
abbrev pub repeat : {B : Type 0} → (B → Test) → (B → Reader B) → B → Reader B
repeat t P b s i = steps t P (suc (length s.tokens)) b s i

-- one more value
abbrev pub one_more : {A : Type 0} → Reader A → List A → Reader (List A)
one_more P xs = made (λ x. xs ++ x ∷ []) P

-- the values of P, while the test passes
abbrev pub many : {A : Type 0} → Test → Reader A → Reader (List A)
many t P = repeat (λ _. t) (one_more P) []

-- the same without the values
abbrev pub passing : {A : Type 0} → Test → Reader A → Reader (Unit {0})
passing t P = repeat (λ _. t) (λ _. ignored P) tt

-- P {sign P}
abbrev pub separated : {A : Type 0} → ℕ → Reader A → Reader (List A)
separated byte P = P then λ x. repeat (λ _. sign byte) (one_more (symbol byte >> P)) (x ∷ [])

-- behind an item of a list: a comma, or what closes the list
abbrev pub behind_item : ℕ → Reader (Unit {0})
behind_item closing = choice (sign 44) (symbol 44) (ahead (sign closing))

-- P, and what is behind it in a list
abbrev pub listed : {A : Type 0} → ℕ → Reader A → Reader A
listed closing P = P << behind_item closing

-- [P {"," P} [","]] closing
abbrev pub closed : {A : Type 0} → ℕ → Reader A → Reader (List A)
closed closing P = many (isnt (sign closing)) (listed closing P) << symbol closing

-- ---- groups

-- how many brackets are open behind a token of a group, besides the group's own
abbrev pub deep : ℕ → ℕ → ℕ → Option Lexeme → ℕ
deep opening closing depth w = if is (Symbol opening) w then depth + 1 else if is (Symbol closing) w then depth - 1 else depth

-- one token of a group
abbrev pub within : ℕ → ℕ → ℕ → Reader ℕ
within opening closing depth s i = if is_there (see s i) then Ok (deep opening closing depth (see s i), i + 1) else Err (Unexpected i)

-- not the bracket that closes the group
abbrev pub inside : ℕ → ℕ → Test
inside closing depth s i = not (sign closing s i && (depth == 0))

-- an opening bracket, and up to the closing one that balances it: only these two are counted
unfoldable pub opened : ℕ → ℕ → Reader (Unit {0})
opened opening closing = symbol opening >> ignored (repeat (inside closing) (within opening closing) 0)

-- a group with its closing bracket
abbrev pub group : ℕ → ℕ → Reader (Unit {0})
group opening closing s i = opened opening closing s i >>= λ a. Ok (tt, a.1 + 1)

-- a group that may be left out
abbrev pub past_group : ℕ → ℕ → Reader (Unit {0})
past_group opening closing = passed (sign opening) (group opening closing)
