-- What is given once.
use Rattle.std.specs.Prelude.{◌≡◌, ◌<◌, ℕ, List, Some, slice_get, string_bytes}
use Rattle.lft_whole.specs.declared.tree.Assignment.{Assignment}

-- a value is given at the token to a name to which one is given before
pub record IsGivenAgain (given : List Assignment) (token : ℕ) : Type 0 where
  pub one : ℕ
  pub first : Assignment
  pub is_first : slice_get given one ≡ Some first
  pub other : ℕ
  pub second : Assignment
  pub is_second : slice_get given other ≡ Some second
  pub later : one < other
  pub same : string_bytes first.name.text ≡ string_bytes second.name.text
  pub stands : token ≡ second.name.at

-- each name is given one value
abbrev pub GivesOnce : List Assignment → Type 0
GivesOnce given = (token : ℕ) → IsGivenAgain given token → ⊥
