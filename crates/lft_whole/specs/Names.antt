-- The names of whole Lingua Franca.
use Rattle.std.specs.Prelude.{◌≡◌, ℕ, List, false}
use Rattle.std.proofs.Props.{props}
use Rattle.lft_tree.specs.Identifiers.{IsIdentifier, IsIdentifier-prop}
use Rattle.lft_syntax.specs.Lexeme.{is_reserved}

-- an identifier that isn't reserved
abbrev pub IsFree : List ℕ → Type 0
IsFree name = IsIdentifier name × (is_reserved name ≡ false)

-- it has one proof at most, so that a ghost field may hold it
pub IsFree-prop : (name : List ℕ) → IsProp (IsFree name)
IsFree-prop name = hlevel (props, IsIdentifier-prop)
