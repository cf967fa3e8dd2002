-- The tokens of a text.
use Rattle.std.specs.Prelude.{◌≡◌, ℕ, ◌<◌, ◌≤◌, List, [], ◌∷◌, length, slice_get, slice_range, Option, Some, None}
use Rattle.std.proofs.Props.{props}
use Rattle.lft_tree.specs.Identifiers.{IsIdentifier, IsIdentifier-prop}
use Rattle.lft_syntax.specs.declared.token.{Token.Token, TokenKind.{TokenKind, TheVariants.Name}}
use Rattle.lft_whole.specs.declared.fault.TextFault.{TextFault}
use Rattle.lft_whole.specs.declared.fault.TextFault.TheVariants as faults

-- the bytes from a place up to another lie in the text, and are an identifier if they are a name
abbrev pub IsPiece : List ℕ → ℕ → Option TokenKind → ℕ → Type 0
IsPiece text start kind end = (start < end) × (end ≤ length text) × (kind ≡ Some Name → IsIdentifier (slice_range text start end))

-- the bytes of a token lie in the text, and those of a name are an identifier
abbrev pub IsToken : List ℕ → Token → Type 0
IsToken text t = IsPiece text t.start (Some t.kind) t.end

-- the tokens stand between two places, each behind the one before it
abbrev pub StandBetween : List ℕ → ℕ → List Token → ℕ → Type 0
StandBetween text from [] to = from ≤ to
StandBetween text from (t ∷ ts) to = (from ≤ t.start) × IsToken text t × StandBetween text t.end ts to

-- tokens lie in the text, in order, and names are identifiers
abbrev pub AreTokens : List ℕ → List Token → Type 0
AreTokens text tokens = StandBetween text 0 tokens (length text)

-- the same of each token alone
abbrev pub EachIsToken : List ℕ → List Token → Type 0
EachIsToken text tokens = (i : ℕ) (t : Token) → slice_get tokens i ≡ Some t → IsToken text t

-- it has one proof at most, so that a ghost field may hold it
pub EachIsToken-prop : (text : List ℕ) (tokens : List Token) → IsProp (EachIsToken text tokens)
EachIsToken-prop text tokens = hlevel (props, IsIdentifier-prop)

-- the fault is of a byte of the text
abbrev pub IsInText : List ℕ → TextFault → Type 0
IsInText text (faults.BadText at) = at < length text
IsInText text faults.NoMemory = Unit {0}
