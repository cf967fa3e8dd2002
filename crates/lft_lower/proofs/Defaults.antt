-- Parameters from which times are read, one after another.
use Rattle.std.proofs.Common.{◌≡◌, ℕ, ◌+◌, ◌<◌, ◌≤◌, inl, inr, Bool, true, Option, Some, None, length, slice_get, refl, subst, sym, arith}
use Rattle.std.specs.Prelude.{IfSome}
use Rattle.std.proofs.{Math.Nat.eq-or-lt_of_le, lemmas.Option.slice_get_within}
use Rattle.lft_classes.specs.declared.shapes.{InheritedParameter.InheritedParameter, Shape.Shape}
use Rattle.lft_lower.specs.inner.Reactors.{HasDefault, IsDefault}

-- the first of them have defaults
abbrev pub HaveDefaults : Bool → Shape → ℕ → Type 0
HaveDefaults main shape k = (n : ℕ) → n < k → HasDefault main shape n

-- one more
pub defaults_next : (main : Bool) (shape : Shape) (k : ℕ) → HaveDefaults main shape k → HasDefault main shape k → HaveDefaults main shape (k + 1)
defaults_next main shape k so_far one n less = let low : n ≤ k = omega (arith, less) in elim (eq-or-lt_of_le low) [
  | inl same ↦ subst (HasDefault main shape) (sym same) one
  | inr earlier ↦ so_far n earlier
]

default_at : (main : Bool) (shape : Shape) (k n : ℕ) (o : Option InheritedParameter) → slice_get shape.parameters.items n ≡ o → length shape.parameters.items ≤ k → HaveDefaults main shape k → HasDefault main shape n
default_at main shape k n None at all so_far timed = subst (λ o. IfSome o (λ p. (p.parameter.now.is_time ≡ true) × IsDefault main p.parameter.now.default)) (sym at) tt
default_at main shape k n (Some p) at all so_far timed = let within = slice_get_within shape.parameters.items n p at in so_far n (omega (arith, within, all)) timed

-- all of them
pub defaults_all : (main : Bool) (shape : Shape) (k : ℕ) → length shape.parameters.items ≤ k → HaveDefaults main shape k → (n : ℕ) → HasDefault main shape n
defaults_all main shape k all so_far n = default_at main shape k n (slice_get shape.parameters.items n) refl all so_far
