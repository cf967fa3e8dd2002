use Rattle.std.proofs.Common.{◌≡◌, ◌≤◌, ◌++◌, map, take, length}
use Rattle.csv.specs.Records.{fields_of}
use Rattle.lft_tables.specs.inner.Records.{IsPlainReader, records_unread}
use Rattle.lft_tables.proofs.records.read_ahead.Given as goal

abbrev pub invariant-loop-place : goal.invariant-loop-place
invariant-loop-place g l = record {
  within : l.place ≤ length l.ahead.items;
  read : IsPlainReader g.R.Read.remaining l.fn.reader → IsPlainReader g.R.Read.remaining l.reader × (records_unread g.R.Read.remaining l.fn.reader ≡ map fields_of (take l.place l.ahead.items) ++ records_unread g.R.Read.remaining l.reader);
}
