-- Expressions of cards: the texts that spell them, and the numbers that they give.
use Rattle.std.specs.Prelude.{◌≡◌, ◌==◌, ℕ, ℤ, ◌+ℤ◌, pos, List, [], ◌∷◌, codes, map, slice_get, unwrap_or, Option, Some, None}
use Rattle.std.specs.{List.{AllZip, slice_split}, Int.{int_wrap, w64}}
use Rattle.lft_tag.specs.declared.Tag.{Tag}
use Rattle.lft_ir.specs.{Parts.{Parts, inputs}, declared.parts.{Name.Name, Reaction.Reaction, Value.{Value, TheVariants.{Bare, Int}}}}
use Rattle.lft_trace.specs.{Numbers.value, Traces.IsThing}
use Rattle.lft_record.specs.declared.cards.expression.Summand.{Summand}
use Rattle.lft_record.specs.declared.cards.expression.Summand.TheVariants as term

-- a number, `state` or `time`
abbrev pub IsLiteral : List ℕ → Summand → Type 0
IsLiteral text (term.Number n) = value text ≡ Some (Int n)
IsLiteral text term.State = text ≡ codes "state"
IsLiteral text term.Time = text ≡ codes "time"
IsLiteral text (term.Input i) = ⊥

-- the name of the reaction's input at this place
abbrev pub IsInput : Parts → ℕ → List ℕ → ℕ → Type 0
IsInput program r text i = (x : Reaction) × (n : Name) × (slice_get program.reactions r ≡ Some x) × (slice_get (inputs x) i ≡ Some n) × IsThing program text n

-- a term: a literal, or else the name of an input of the reaction (ours)
abbrev pub IsTerm : Parts → ℕ → List ℕ → Summand → Type 0
IsTerm program r text (term.Number n) = IsLiteral text (term.Number n)
IsTerm program r text term.State = IsLiteral text term.State
IsTerm program r text term.Time = IsLiteral text term.Time
IsTerm program r text (term.Input i) = ((t : Summand) → IsLiteral text t → ⊥) × IsInput program r text i

-- an expression: one or more terms, joined by `+` (byte 43)
abbrev pub IsExpression : Parts → ℕ → List ℕ → List Summand → Type 0
IsExpression program r text terms = AllZip (IsTerm program r) (slice_split (λ b. b == 43) text) terms

-- the number of an input: 0 where it is absent or bare
abbrev pub input_value : Option Value → ℤ
input_value (Some (Int n)) = n
input_value (Some Bare) = pos 0
input_value None = pos 0

-- what a term stands for in a run at a tag, with the state word before it and what it reads
abbrev pub term_value : Tag → ℤ → List (Option Value) → Summand → ℤ
term_value g word reads (term.Number n) = n
term_value g word reads term.State = word
term_value g word reads term.Time = pos g.time
term_value g word reads (term.Input i) = input_value (unwrap_or (slice_get reads i) None)

-- the sum of these numbers
abbrev pub total : List ℤ → ℤ
total [] = pos 0
total (x ∷ xs) = x +ℤ total xs

-- the sum of the terms, which wraps as an i64
abbrev pub expression_value : Tag → ℤ → List (Option Value) → List Summand → ℤ
expression_value g word reads terms = int_wrap w64 (total (map (term_value g word reads) terms))
