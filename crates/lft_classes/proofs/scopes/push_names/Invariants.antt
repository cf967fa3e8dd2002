use Rattle.std.proofs.Common.{◌≡◌, ◌<◌, ℕ, List, Some, slice_get}
use Rattle.lft_whole.specs.declared.{sources.source.SourceFile.SourceFile, tree.ImportedName.ImportedName}
use Rattle.lft_classes.specs.inner.Scopes.{AreOwnScopes, EachMeans, HasMeaning, IsGiven, MeansAt, IsImport}
use Rattle.lft_classes.proofs.scopes.push_names.Given as goal

abbrev pub invariant-loop-place : goal.invariant-loop-place
invariant-loop-place l = record {
  meant : (files : List SourceFile) → IsImport files l.number l.target l.import → AreOwnScopes files l.own → EachMeans (MeansAt files l.number) l.initial.meanings.items → EachMeans (MeansAt files l.number) l.meanings.items;
  kept : (q : List ℕ) (n : ℕ) → HasMeaning l.initial.meanings.items q n → HasMeaning l.meanings.items q n;
  all : (files : List SourceFile) → AreOwnScopes files l.own → (which : ℕ) (name : ImportedName) → which < l.place → slice_get l.import.names.items which ≡ Some name → IsGiven files l.target name l.meanings.items;
}
