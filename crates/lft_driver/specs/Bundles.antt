-- The three texts of a bundle.
use Rattle.std.specs.Prelude.{◌≡◌, ℕ, ◌+◌, ◌<◌, ◌⊎◌, List, ◌++◌, length, take, drop, slice_get, Some, codes}

-- a line begins at i: at the head, or after a line feed
abbrev pub StartsLine : List ℕ → ℕ → Type 0
StartsLine text i = (i ≡ 0) ⊎ ((k : ℕ) × (i ≡ k + 1) × (slice_get text k ≡ Some 10))

-- the line that begins at i is the marker, which has its line feed
pub record IsMarkerLine (text marker : List ℕ) (i : ℕ) : Type 0 where
  pub begins : StartsLine text i
  pub within : i < length text
  pub is_marker : take (length marker) (drop i text) ≡ marker

-- before and after are what stands round the first line that is the marker
pub record IsCut (text marker before after : List ℕ) : Type 0 where
  pub parts : text ≡ before ++ (marker ++ after)
  pub line : IsMarkerLine text marker (length before)
  pub first : (i : ℕ) → i < length before → IsMarkerLine text marker i → ⊥

-- the texts of a bundle: round the lines `--- externals` and `--- trace`, after a first line `--- program`
pub record IsBundle (text program externals trace : List ℕ) : Type 0 where
  pub rest : List ℕ
  pub others : List ℕ
  pub is_bundle : text ≡ codes "--- program\n" ++ rest
  pub first : IsCut rest (codes "--- externals\n") program others
  pub second : IsCut others (codes "--- trace\n") externals trace
