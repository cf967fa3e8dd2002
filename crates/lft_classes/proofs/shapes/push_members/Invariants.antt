use Rattle.std.proofs.Common.{◌≡◌, ◌++◌, map, take}
use Rattle.lft_classes.specs.inner.Built.{located}
use Rattle.lft_classes.proofs.shapes.push_members.Given as goal

abbrev pub invariant-loop-member : goal.invariant-loop-member
invariant-loop-member l = record {
  all : located l.members.items ≡ located l.initial.members.items ++ map (λ m. (l.class.file, m)) (take l.member-index l.member-items);
  main : l.work.main ≡ l.initial.work.main;
}
