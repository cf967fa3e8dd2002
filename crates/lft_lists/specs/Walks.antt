-- Circles of numbers that lead to others.
use Rattle.std.specs.Prelude.{◌≡◌, ℕ, ◌+◌, ◌<◌, List, Some, slice_get, length}

-- no number stands twice
abbrev pub StandOnce : List ℕ → Type 0
StandOnce numbers = (i j a : ℕ) → slice_get numbers i ≡ Some a → slice_get numbers j ≡ Some a → i ≡ j

-- one number or more, none twice: each leads to the next, and the last to the first
pub record IsCircle (LeadsTo : ℕ → ℕ → Type 0) (circle : List ℕ) : Type 0 where
  pub some : 0 < length circle
  pub steps : (i a b : ℕ) → slice_get circle i ≡ Some a → slice_get circle (i + 1) ≡ Some b → LeadsTo a b
  pub closes : (i a b : ℕ) → i + 1 ≡ length circle → slice_get circle i ≡ Some a → slice_get circle 0 ≡ Some b → LeadsTo a b
  pub once : StandOnce circle
