use Rattle.std.proofs.Common.{List, ◌++◌, take}
use Rattle.lft_trace.specs.{inner.SeenExternals.AreKept, declared.external_table.Entry.Entry}
use Rattle.lft_trace.proofs.reading.externals.keep_part.Given as goal

abbrev pub invariant-loop-place : goal.invariant-loop-place
invariant-loop-place l = record { keeps : (before : List Entry) → AreKept before l.fn.kept.stop l.fn.kept.events → AreKept (before ++ take l.place l.entries) l.stop l.events }
