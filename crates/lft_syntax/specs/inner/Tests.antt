-- Tests of what stands at a place, and the words with which productions begin: for the readings alone.
use Rattle.std.specs.Prelude.{ℕ, List, [], ◌∷◌, codes, Bool, true, false, Option, Some, nat_eq, ◌||◌, if◌then◌else◌}
use Rattle.lft_syntax.specs.Lexeme.{Lexeme, Letters, Number, Arrow, Symbol, is_one_of, is_reserved}

-- whether one of these words stands there
abbrev pub is_word_of : List (List ℕ) → Option Lexeme → Bool
is_word_of words (Some (Letters x)) = is_one_of words x
is_word_of words _ = false

abbrev pub is_number : Option Lexeme → Bool
is_number (Some (Number n)) = true
is_number _ = false

-- what stands after the name that a member begins with
abbrev pub is_follower : Option Lexeme → Bool
is_follower (Some Arrow) = true
is_follower (Some (Symbol s)) = nat_eq s 61 || nat_eq s 46 || nat_eq s 44
is_follower _ = false

-- the reserved words that a production begins with
abbrev pub input_keys : List (List ℕ)
input_keys = codes "mutable" ∷ codes "input" ∷ []

abbrev pub port_keys : List (List ℕ)
port_keys = codes "mutable" ∷ codes "input" ∷ codes "output" ∷ []

abbrev pub action_keys : List (List ℕ)
action_keys = codes "logical" ∷ codes "physical" ∷ []

abbrev pub scope_keys : List (List ℕ)
scope_keys = codes "private" ∷ codes "public" ∷ []

abbrev pub preamble_keys : List (List ℕ)
preamble_keys = codes "private" ∷ codes "public" ∷ codes "preamble" ∷ []

abbrev pub member_keys : List (List ℕ)
member_keys = codes "mutable" ∷ codes "input" ∷ codes "output" ∷ codes "timer" ∷ codes "logical" ∷ codes "physical" ∷ codes "state" ∷ codes "private" ∷ codes "public" ∷ codes "preamble" ∷ codes "reaction" ∷ []

-- whether a member, or the bracket that ends a body, begins with these two tokens
abbrev pub closes_at : Option Lexeme → Option Lexeme → Bool
closes_at (Some (Symbol s)) o = nat_eq s 125
closes_at (Some (Letters x)) o = if is_one_of member_keys x then true else if is_reserved x then false else is_follower o
closes_at _ o = false
