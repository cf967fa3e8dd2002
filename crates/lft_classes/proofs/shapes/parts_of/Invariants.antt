use Rattle.std.proofs.Common.{◌≡◌, take}
use Rattle.std.specs.Prelude.{flat_map}
use Rattle.lft_classes.specs.inner.Built.{located, located_parameters, members_at, parameters_at}
use Rattle.lft_classes.proofs.shapes.parts_of.Given as goal

abbrev pub invariant-loop-place : goal.invariant-loop-place
invariant-loop-place l = record {
  members : located l.parts.members.items ≡ flat_map (members_at l.scopes) (take l.place l.chain);
  parameters : located_parameters l.parts.parameters.items ≡ flat_map (parameters_at l.scopes) (take l.place l.chain);
  main : l.work.main ≡ l.initial.work.main;
}
