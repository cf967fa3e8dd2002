use Rattle.std.proofs.Common.{◌≡◌, length}
use Rattle.lft_whole_parser.{specs.inner.Imports.Files.{Adds, IsAskedBy, IsKnown, paths_of}, proofs.ImportsLemmas.Known.SoFar}
use Rattle.lft_whole_parser.proofs.imports.asked.FileNumbers.numbers.Given as goal

abbrev pub invariant-loop-place : goal.invariant-loop-place
invariant-loop-place l = record {
  known : IsKnown l.self;
  added : Adds l.fn.self.paths.items (IsAskedBy l.fn.file l.path l.imports) l.self.paths.items;
  many : length l.numbers.items ≡ l.place;
  so_far : SoFar (paths_of l.self) l.path l.imports l.place l.numbers.items;
}
