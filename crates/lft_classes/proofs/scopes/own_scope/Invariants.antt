use Rattle.std.proofs.Common.{◌≡◌, ◌+◌, ◌<◌, ◌++◌, ℕ, List, Some, length, map, option_map, slice_get, string_bytes, take}
use Rattle.lft_whole.specs.declared.{sources.source.SourceFile.SourceFile, tree.Reactor.Reactor}
use Rattle.lft_classes.specs.inner.Scopes.{AreNumberedClasses, placed, EachMeans, HasMeaning, IsOwnAt, reactors_before}
use Rattle.lft_classes.proofs.scopes.own_scope.Given as goal

abbrev pub invariant-loop-place : goal.invariant-loop-place
invariant-loop-place l = record {
  own : (files : List SourceFile) → slice_get files l.number ≡ Some l.file → placed l.initial.classes.items ≡ reactors_before files l.number → EachMeans (IsOwnAt files l.number) l.meanings.items;
  has : (j : ℕ) (r : Reactor) (q : List ℕ) → j < l.place → slice_get l.file.tree.reactors.items j ≡ Some r → option_map (λ n. string_bytes n.text) r.name ≡ Some q → HasMeaning l.meanings.items q (length l.initial.classes.items + j);
  classes : placed l.classes.items ≡ placed l.initial.classes.items ++ map (λ r. (l.number, r)) (take l.place l.file.tree.reactors.items);
  numbers : AreNumberedClasses l.initial.classes.items → AreNumberedClasses l.classes.items;
}
