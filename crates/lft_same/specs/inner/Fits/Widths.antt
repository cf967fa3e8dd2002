-- Widths that are found in settings.
use Rattle.std.specs.Prelude.{◌≡◌, ℕ, ◌<◌, ◌≤◌, List, Some}
use Rattle.lft_whole.specs.declared.{tree.Width.Width, sources.source.SourceFile.SourceFile}
use Rattle.lft_classes.specs.declared.shapes.Shape.{Shape}
use Rattle.lft_elaborate.specs.inner.{Places.{width_in, written_width}, Used.IsReached, Values.Valued}
use Rattle.lft_same.specs.{Expanded.Instances.{Inside, Widths}, inner.Fits.Fits.Fits}

-- a width below this one is cut off nowhere, and no program has a greater one
abbrev pub small : ℕ
small = 1000000

-- in each setting that instances have each width is found in so many steps, and is below that
abbrev pub AreFound : List Shape → ℕ → Type 0
AreFound shapes depth = (t : Valued) (m : ℕ) (width : Width) → IsReached shapes t → written_width shapes t m ≡ Some width → (d : ℕ) × (n : ℕ) × (d ≤ depth) × (width_in shapes d t m ≡ Some n) × (n < small)

-- where a setting fits an instance, the widths of the instance are those that are found of the setting
abbrev pub AreThose : List SourceFile → List Shape → ℕ → Widths → Type 0
AreThose files shapes depth w = (t : Valued) (x : Inside) (m d n : ℕ) → Fits files shapes t x → d ≤ depth → width_in shapes d t m ≡ Some n → n < small → w x m ≡ n
