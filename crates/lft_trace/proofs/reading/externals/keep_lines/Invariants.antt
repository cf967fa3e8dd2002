use Rattle.std.proofs.Common.{List, ◌++◌, take}
use Rattle.lft_trace.specs.{inner.ExternalLines.AreKeptIn, declared.external_table.Entry.Entry}
use Rattle.lft_tables.specs.inner.Parts.{items_of}
use Rattle.lft_trace.proofs.reading.externals.keep_lines.Given as goal

abbrev pub invariant-loop-place : goal.invariant-loop-place
invariant-loop-place g l = record { keeps : (before : List Entry) → AreKeptIn before l.fn.kept → AreKeptIn (before ++ items_of (take l.place l.parts.items)) l.kept }
