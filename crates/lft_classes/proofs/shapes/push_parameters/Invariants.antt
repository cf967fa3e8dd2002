use Rattle.std.proofs.Common.{◌≡◌, ◌++◌, map, take}
use Rattle.lft_classes.specs.inner.Built.{located_parameters}
use Rattle.lft_classes.proofs.shapes.push_parameters.Given as goal

abbrev pub invariant-loop-parameter : goal.invariant-loop-parameter
invariant-loop-parameter l = record {
  all : located_parameters l.parameters.items ≡ located_parameters l.initial.parameters.items ++ map (λ m. (l.class.file, m)) (take l.parameter-index l.parameter-items);
  main : l.work.main ≡ l.initial.work.main;
}
