-- Where each width of a program is found, its instances have these widths.
use Rattle.std.proofs.Common.{◌≡◌, ℕ, List, Some}
use Rattle.lft_whole.specs.declared.sources.source.SourceFile.{SourceFile}
use Rattle.lft_classes.specs.{declared.nesting.Nesting.Nesting, inner.Nestings.IsNesting}
use Rattle.lft_elaborate.specs.inner.{Used.main as reached_main, Values.{Valued, main_setting}}
use Rattle.lft_same.specs.{Expanded.{Instances.Widths, Whole.AreWidths}, inner.Fits.Widths.{AreFound, AreThose}}
use Rattle.lft_same.proofs.FitsLemmas.{Nested.{exists_law, inside_law, instance_law, main_law}, Widths.{AreNested, are_widths, nothing, width_is, widths_to}}

module _ (files : List SourceFile) (scopes : _) (n : Nesting) (is : IsNesting files scopes n) where
  are_nested : AreNested files n.shapes.items
  are_nested = record { instance = instance_law files scopes n is; exists = exists_law files scopes n is; inside_fits = inside_law files scopes n is }

  pub widths_law : (t : Valued) (depth : ℕ) → main_setting n.shapes.items ≡ Some t → AreFound n.shapes.items depth → (w : Widths) × AreWidths files w × AreThose files n.shapes.items depth w
  widths_law t depth set found =
      let main = main_law files scopes n is t set in
      (widths_to files depth, are_widths files n.shapes.items are_nested depth found t main.0 main.1 (reached_main set) main.2, λ u x m d k fits le e l. width_is files n.shapes.items are_nested nothing d depth le u x fits m k e l)
