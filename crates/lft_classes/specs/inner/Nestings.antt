-- The reactors below the main one.
use Rattle.std.specs.Prelude.{◌≡◌, ℕ, List, Some}
use Rattle.lft_whole.specs.declared.sources.source.SourceFile.{SourceFile}
use Rattle.lft_classes.specs.declared.{nesting.Nesting.Nesting, scopes.{Class.Class, ReactorNames.ReactorNames}}
use Rattle.lft_classes.specs.inner.{Built.{AreBuilt, AreInside, AreNoted, cores, first_class}, Needs.{IsDecided, IsIndexFree}}
use Rattle.lft_classes.specs.inner.{Scopes.{IsMain, AreScopes, begins_at}, Shapes.{inside, tables}, Walks.{Has, IsList}}

-- Names of reactors mean what they may. The first shape is of the main reactor of the first file, which has no other one. A program that is refused as a whole is refused where this one begins. Each shape has what its reactor and all that this extends declare. In an instance, and there alone, the shape of its reactor is noted. The order has the first shape and those that are noted in it at any depth, each once, behind those that are noted in it: so none contains itself. In each of these the parameters are marked that its widths and its times need, and no others; and no bank in it needs the number of each of its instances.
pub record IsNesting (files : List SourceFile) (scopes : ReactorNames) (n : Nesting) : Type 0 where
  pub scopes_are : AreScopes files scopes
  pub main : Class
  pub main_is : IsMain scopes main
  pub is_refused : n.work.main ≡ begins_at main
  pub is_first : first_class (cores n.shapes.items) ≡ Some main
  pub built : AreBuilt scopes (cores n.shapes.items)
  pub inside_are : AreInside scopes (cores n.shapes.items) (tables n.shapes.items)
  pub all_noted : AreNoted scopes (cores n.shapes.items) (tables n.shapes.items)
  pub order : IsList (inside (tables n.shapes.items)) 0 n.order.items
  pub decided : (s : ℕ) → Has n.order.items s → IsDecided scopes n.shapes.items s
  pub index_free : (s : ℕ) → Has n.order.items s → IsIndexFree scopes (cores n.shapes.items) (tables n.shapes.items) s
