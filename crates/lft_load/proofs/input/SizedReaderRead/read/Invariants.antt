use Rattle.std.proofs.Common.{◌-◌, ◌≡◌}
use Rattle.std.specs.Io.KnownBytes.{Keeps}
use Rattle.lft_load.proofs.input.SizedReaderRead.read.Given as goal

abbrev pub invariant-loop-self : goal.invariant-loop-self
invariant-loop-self g l =
    Keeps (g.R.Read.remaining l.initial.self.reader) (g.R.Read.remaining l.self.reader)
    × (l.self.size ≡ l.initial.self.size) × (l.self.given ≡ l.initial.self.given)

abbrev pub decreases-loop-self : goal.decreases-loop-self
decreases-loop-self g l = 16777216 - l.self.calls
