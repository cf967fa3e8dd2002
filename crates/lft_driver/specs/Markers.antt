-- Which marker a text lacks that is no bundle.
use Rattle.std.specs.Prelude.{◌≡◌, ◌≢◌, ℕ, List, ◌++◌, codes}
use Rattle.lft_driver.specs.{Bundles.IsCut, declared.bundle.Marker.Marker}
use Rattle.lft_driver.specs.declared.bundle.Marker.TheVariants as markers

-- none of the lines of the text is the marker
abbrev pub LacksLine : List ℕ → List ℕ → Type 0
LacksLine text marker = (before after : List ℕ) → IsCut text marker before after → ⊥

-- the first marker that is missing: the text doesn't begin with that of the program, or behind it no line is that of the external inputs, or behind that one no line is that of the trace
abbrev pub IsMissing : List ℕ → Marker → Type 0
IsMissing text markers.Program = (rest : List ℕ) → text ≢ codes "--- program\n" ++ rest
IsMissing text markers.Externals = (rest : List ℕ) × (text ≡ codes "--- program\n" ++ rest) × LacksLine rest (codes "--- externals\n")
IsMissing text markers.Trace = (rest : List ℕ) × (program : List ℕ) × (others : List ℕ) × (text ≡ codes "--- program\n" ++ rest) × IsCut rest (codes "--- externals\n") program others × LacksLine others (codes "--- trace\n")
