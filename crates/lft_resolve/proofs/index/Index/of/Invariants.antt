use Rattle.std.proofs.Common.{take}
use Rattle.lft_resolve.specs.inner.{Places.IsIndexOf, Tests.texts}
use Rattle.lft_resolve.proofs.index.Index.of.Given as goal

abbrev pub invariant-loop-place : goal.invariant-loop-place
invariant-loop-place l = IsIndexOf l.index (texts (take l.place l.names))
