use Rattle.lft_stream.proofs.reads.is_woken_by_present.Given as goal

abbrev pub invariant-loop-place : goal.invariant-loop-place
invariant-loop-place l = Unit {0}
