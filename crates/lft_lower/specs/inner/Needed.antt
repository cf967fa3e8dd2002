-- Inside: the times that each instance of a reactor has to give.
use Rattle.std.specs.Prelude.{◌≡◌, ◌&&◌, ℕ, Bool, true, false, not, is_some, List, ◌∷◌, None, option_map, slice_get, unwrap_or, [], count_by, length}
use Rattle.lft_elaborate.specs.{inner.Values.given_to, Channels.Channels.below}
use Rattle.lft_classes.specs.declared.shapes.{Child.Child, GivenValue.GivenValue, InheritedParameter.InheritedParameter, Shape.Shape}

-- whether a time is read from the parameter of this number
abbrev pub is_timed : Shape → ℕ → Bool
is_timed shape n = unwrap_or (slice_get shape.timed.items n) false

-- the parameter has no default
abbrev pub is_bare : InheritedParameter → Bool
is_bare p = not (is_some p.parameter.now.default)

-- a time is read from the parameter of this number, which has no default
abbrev pub is_needed : Shape → ℕ → Bool
is_needed shape p = unwrap_or (option_map is_bare (slice_get shape.parameters.items p)) false && is_timed shape p

-- an instance gives nothing to such a parameter
abbrev pub LacksGiven : Shape → Child → Type 0
LacksGiven inner child = (p : ℕ) × (is_needed inner p ≡ true) × (given_to child.given.items p ≡ None)

-- no parameter is given a value twice
abbrev pub GivesEachOnce : List GivenValue → Type 0
GivesEachOnce [] = Unit {0}
GivesEachOnce (g ∷ gs) = (given_to gs g.parameter ≡ None) × GivesEachOnce gs

-- an instance gives a value to each such parameter, if it gives none twice
abbrev pub GivesNeeded : Shape → Child → Type 0
GivesNeeded inner child = GivesEachOnce child.given.items → LacksGiven inner child → ⊥

-- ---- for the crate's own contracts
-- so many such parameters the shape has
abbrev pub needed_in : Shape → ℕ
needed_in shape = count_by (is_needed shape) (below (length shape.parameters.items))

-- so many values an instance gives to such parameters
abbrev pub needed_given : Shape → Child → ℕ
needed_given inner child = count_by (λ g. is_needed inner g.parameter) child.given.items
