-- Core instances that stand for instances.
use Rattle.std.specs.Prelude.{◌≡◌, ℕ, List, Some, Contains}
use Rattle.lft_tree.specs.{Tree.reactors_of, View.tree_view, declared.ast.Ast.Ast}
use Rattle.lft_resolve.specs.Instances.{Inside as CoreInside}
use Rattle.lft_whole.specs.declared.sources.source.SourceFile.{SourceFile}
use Rattle.lft_classes.specs.{inner.Walks.Has, declared.shapes.Shape.Shape}
use Rattle.lft_elaborate.specs.inner.{Settings.{setting_at, shape_at}, Values.Valued, Widths.found_width}
use Rattle.lft_lower.specs.inner.Reactors.{IsLowering, IsReactor}
use Rattle.lft_same.specs.{Expanded.Instances.{Inside, Widths}, inner.{Fits.Fits.Fits, Times.{HasParameterTimes, HaveTimeValues}}}

-- where a setting that instances have fits an instance, that one has the widths that lowering found
abbrev pub AreWidthsFound : (files : List SourceFile) (tree : Ast) → IsLowering files tree → Widths → Type 0
AreWidthsFound files tree low w = (k : ℕ) (t : Valued) (y : Inside) (m n : ℕ) → Has low.used k → setting_at low.settings k ≡ Some t → Fits files low.settings.shapes.items t y → found_width low.settings k m ≡ Some n → w y m ≡ n

-- a core instance is of the core reactor of a setting that fits the instance, and has its times
pub record StandsFor (files : List SourceFile) (tree : Ast) (low : IsLowering files tree) (x : Inside) (core : CoreInside) : Type 0 where
  pub number : ℕ
  pub used : Has low.used number
  pub setting : Valued
  pub is_setting : setting_at low.settings number ≡ Some setting
  pub shape : Shape
  pub is_shape : shape_at low.settings number ≡ Some shape
  pub fits : Fits files low.settings.shapes.items setting x
  pub listed : Contains (reactors_of (tree_view tree)) core.reactor
  pub reactor : IsReactor low.settings low.names number shape core.reactor
  pub times : HasParameterTimes files x core
  pub timed : HaveTimeValues files x core.reactor.parameters
