use Rattle.std.proofs.Common.{◌≡◌, ◌<◌, ℕ, List, Some, slice_get}
use Rattle.lft_whole.specs.declared.{sources.source.SourceFile.SourceFile, tree.{Import.Import, ImportedName.ImportedName}}
use Rattle.lft_classes.specs.inner.Scopes.{AreOwnScopes, EachMeans, HasMeaning, IsGiven, MeansAt}
use Rattle.lft_classes.proofs.scopes.push_imports.Given as goal

abbrev pub invariant-loop-place : goal.invariant-loop-place
invariant-loop-place l = record {
  meant : (files : List SourceFile) → slice_get files l.number ≡ Some l.file → AreOwnScopes files l.own → EachMeans (MeansAt files l.number) l.initial.meanings.items → EachMeans (MeansAt files l.number) l.meanings.items;
  kept : (q : List ℕ) (n : ℕ) → HasMeaning l.initial.meanings.items q n → HasMeaning l.meanings.items q n;
  all : (files : List SourceFile) → AreOwnScopes files l.own → (place : ℕ) (what : Import) → place < l.place → slice_get l.file.tree.imports.items place ≡ Some what → (other which : ℕ) (name : ImportedName) → slice_get l.file.imports.items place ≡ Some other → slice_get what.names.items which ≡ Some name → IsGiven files other name l.meanings.items;
}
