use Rattle.std.proofs.Common.{◌≡◌, map, take}
use Rattle.lft_program.specs.inner.Extended.{dotted, extended}
use Rattle.lft_program.proofs.naming.add_declared.Given as goal

abbrev pub invariant-loop-thing : goal.invariant-loop-thing
invariant-loop-thing l = l.texts ≡ extended l.fn.texts (map dotted (take l.thing-index l.things))
