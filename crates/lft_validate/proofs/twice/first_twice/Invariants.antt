use Rattle.std.proofs.Common.{take}
use Rattle.lft_resolve.specs.{Causes.IsTwice, inner.Tests.{IsTestOf, has_text, texts}}
use Rattle.lft_validate.proofs.twice.first_twice.Given as goal

abbrev pub invariant-loop-place : goal.invariant-loop-place
invariant-loop-place l = IsTestOf (has_text l.seen) (texts (take l.place l.names)) × (IsTwice (texts (take l.place l.names)) → ⊥)
