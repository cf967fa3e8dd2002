use Rattle.std.proofs.Common.{◌≡◌, ◌-◌, ◌<◌, Some, drop, slice_get}
use Rattle.lft_tables.specs.{inner.Records.{fields_at_hand, in_memory, IsPlain, records_left}, Records.records_of}
use Rattle.lft_text_diagnostics.proofs.tables.record.record_of.Given as goal

abbrev pub invariant-loop-before : goal.invariant-loop-before
invariant-loop-before l = record {
  plain : IsPlain in_memory l.records;
  left : records_left in_memory l.records ≡ drop l._before (records_of l.text);
  last : 0 < l._before → slice_get (records_of l.text) (l._before - 1) ≡ Some (fields_at_hand l.records);
}
