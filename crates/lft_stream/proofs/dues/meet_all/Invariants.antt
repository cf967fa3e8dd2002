use Rattle.std.proofs.Common.{IsTrue}
use Rattle.lft_stream.specs.inner.Dues.{GoOn, IsSomePresent}
use Rattle.lft_stream.proofs.dues.meet_all.Given as goal

abbrev pub invariant-loop-place : goal.invariant-loop-place
invariant-loop-place l = record { due : GoOn l.last l.tag l.fn.dues l.dues; present : IsTrue l.is_present → IsSomePresent l.last l.tag l.fn.dues }
