-- Inside: why a program's text has no tree.
use Rattle.std.specs.Prelude.{◌≡◌, ◌⊎◌, ℕ, ◌-◌, ◌≤◌, List, codes, slice_get, Some}
use Rattle.std.specs.Str.Iter.{HasSubslice}
use Rattle.lft_syntax.specs.{declared.token.Token.Token, Lexes.IsRefusedAt}
use Rattle.lft_text_diagnostics.specs.{Refusals.HasNoTree, Tables.Tables.ContinuesFrom}

-- The text begins with the header of a trace, of external inputs, or of cards.
abbrev pub BeginsTable : List ℕ → Type 0
BeginsTable t =
    ContinuesFrom (codes "event,worker,time,microstep,reaction,name,value,delay") t
    ⊎ ContinuesFrom (codes "kind,time,microstep,name,value") t
    ⊎ ContinuesFrom (codes "kind,reaction,name,delay,value") t

-- The token that begins at the byte k shows that the text has no tree.
abbrev pub IsRefusedWith : List ℕ → ℕ → Type 0
IsRefusedWith t k = (tokens : List Token) × (number : ℕ) × (token : Token) × HasNoTree t tokens number × (slice_get tokens (number - 1) ≡ Some token) × (token.start ≡ k)

-- The text is refused from i to j: it is cut into tokens up to j and no further, or a token that begins there shows that it has no tree.
abbrev pub IsRefusedFrom : List ℕ → ℕ → ℕ → Type 0
IsRefusedFrom t i j = IsRefusedAt t j ⊎ ((k : ℕ) × (i ≤ k) × (k ≤ j) × IsRefusedWith t k)

-- The words may help where a text is refused from i to j: it begins as a table, or is refused there as a core text. They don't tell that a core text leaves something out.
abbrev pub MayHelp : List ℕ → ℕ → ℕ → List ℕ → Type 0
MayHelp t i j words = (BeginsTable t ⊎ IsRefusedFrom t i j) × (HasSubslice words (codes "left out") → ⊥)
