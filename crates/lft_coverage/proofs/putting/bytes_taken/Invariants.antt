use Rattle.std.proofs.Common.{◌≤◌, length, take}
use Rattle.std.specs.Io.KnownBytes.{Appends}
use Rattle.lft_coverage.proofs.putting.bytes_taken.Given as goal

abbrev pub invariant-loop : goal.invariant-loop
invariant-loop g l =
    (l.taken ≤ length l.text)
    × Appends (g.W.Write.contents l.fn.out) (g.W.Write.contents l.out) (take l.taken l.text)
