use Rattle.std.proofs.Common.{◌≡◌, ◌-◌, length}
use Rattle.std.specs.Io.KnownBytes.{Keeps}
use Rattle.lft_tables.specs.inner.TableLines.{text_left}
use Rattle.lft_tables.proofs.table_lines.TableLines.fill.Given as goal

abbrev pub invariant-loop-chunk : goal.invariant-loop-chunk
invariant-loop-chunk g l = record { kept : Keeps (text_left g.R.Read.remaining l.fn.self) (text_left g.R.Read.remaining l.self); chunk : length l.chunk ≡ 16384 }

abbrev pub decreases-loop-chunk : goal.decreases-loop-chunk
decreases-loop-chunk g l = l.bytes - length l.self.read.items
