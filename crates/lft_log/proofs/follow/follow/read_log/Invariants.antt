use Rattle.std.proofs.Common.{◌≡◌, ◌<◌, ℕ, List, length}
use Rattle.std.specs.Io.KnownBytes.{Appends, Consumes}
use Rattle.lft_log.specs.{Logs.HasManyRows, inner.Told.IsLog, Follow.{Kept.IsKeptOn, Reaches.OfReaches}}
use Rattle.lft_log.proofs.follow.follow.read_log.Given as goal

abbrev pub invariant-loop : goal.invariant-loop
invariant-loop g l =
    (bytes : List ℕ)
    × Consumes (g.R.Read.remaining l.fn.reader) (g.R.Read.remaining l.reader) bytes
    × IsLog l.fn.plan l.plan l.following.until bytes l.log
    × (0 < length l.chunk)
    × (l.plan.program ≡ l.fn.plan.program)
    × IsKeptOn (HasManyRows l.fn.plan.program bytes) l.fn.kept l.kept bytes
    × OfReaches l.fn.plan bytes l.following.every (Appends (g.E.Write.contents l.fn.errors) (g.E.Write.contents l.errors))
