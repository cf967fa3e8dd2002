-- What a token is to a grammar.
use Rattle.std.specs.Prelude.{ℕ, List, [], ◌∷◌, codes, Bool, true, false, Option, Some, None, nat_eq, ◌||◌, if◌then◌else◌}
use Rattle.std.specs.Str.{bytes_eq}
use Rattle.lft_tree.specs.declared.tree.TimeUnit.{TimeUnit}
use Rattle.lft_tree.specs.declared.tree.TimeUnit.TheVariants as units

-- a name or a reserved word is seen as its letters; only whole texts have decimal numbers and ~>
pub data Lexeme : Type 0 where
  Code : Lexeme
  Text : Lexeme
  Letters : List ℕ → Lexeme
  Number : ℕ → Lexeme
  Decimal : Lexeme
  Arrow : Lexeme
  TildeArrow : Lexeme
  Symbol : ℕ → Lexeme

-- whether two are equal
abbrev pub same : Lexeme → Lexeme → Bool
same Code Code = true
same Text Text = true
same (Letters a) (Letters b) = bytes_eq a b
same (Number a) (Number b) = nat_eq a b
same Decimal Decimal = true
same Arrow Arrow = true
same TildeArrow TildeArrow = true
same (Symbol a) (Symbol b) = nat_eq a b
same _ _ = false

abbrev pub is_one_of : List (List ℕ) → List ℕ → Bool
is_one_of [] name = false
is_one_of (w ∷ ws) name = bytes_eq w name || is_one_of ws name

-- words that are no names
unfoldable pub is_reserved : List ℕ → Bool
is_reserved = is_one_of (codes "target" ∷ codes "preamble" ∷ codes "private" ∷ codes "public" ∷ codes "main" ∷ codes "reactor" ∷ codes "mutable" ∷ codes "input" ∷ codes "output" ∷ codes "timer"
    ∷ codes "logical" ∷ codes "physical" ∷ codes "action" ∷ codes "state" ∷ codes "reaction" ∷ codes "startup" ∷ codes "shutdown" ∷ codes "new" ∷ codes "after" ∷ [])

-- the unit of time that a word names
unfoldable pub unit_of : List ℕ → Option TimeUnit
unit_of name =
    if is_one_of (codes "ns" ∷ codes "nsec" ∷ codes "nsecs" ∷ []) name then Some units.Nanosecond
    else if is_one_of (codes "us" ∷ codes "usec" ∷ codes "usecs" ∷ []) name then Some units.Microsecond
    else if is_one_of (codes "ms" ∷ codes "msec" ∷ codes "msecs" ∷ []) name then Some units.Millisecond
    else if is_one_of (codes "s" ∷ codes "sec" ∷ codes "secs" ∷ codes "second" ∷ codes "seconds" ∷ []) name then Some units.Second
    else if is_one_of (codes "min" ∷ codes "mins" ∷ codes "minute" ∷ codes "minutes" ∷ []) name then Some units.Minute
    else if is_one_of (codes "h" ∷ codes "hour" ∷ codes "hours" ∷ []) name then Some units.Hour
    else if is_one_of (codes "d" ∷ codes "day" ∷ codes "days" ∷ []) name then Some units.Day
    else if is_one_of (codes "week" ∷ codes "weeks" ∷ []) name then Some units.Week
    else None

-- ---- what is seen in one token

-- a word that isn't reserved
abbrev pub name_in : Lexeme → Option (List ℕ)
name_in (Letters x) = if is_reserved x then None else Some x
name_in _ = None

-- the value of a number
abbrev pub number_in : Lexeme → Option ℕ
number_in (Number n) = Some n
number_in _ = None

-- the unit that a word names
abbrev pub unit_in : Lexeme → Option TimeUnit
unit_in (Letters x) = unit_of x
unit_in _ = None

-- ---- tests of what stands at a place; past the end nothing stands

abbrev pub negated : Bool → Bool
negated true = false
negated false = true

-- whether this token stands there
abbrev pub is : Lexeme → Option Lexeme → Bool
is w None = false
is w (Some v) = same w v

-- whether any token stands there
abbrev pub is_there : Option Lexeme → Bool
is_there None = false
is_there (Some w) = true

abbrev pub is_name : Option Lexeme → Bool
is_name (Some (Letters x)) = negated (is_reserved x)
is_name _ = false
