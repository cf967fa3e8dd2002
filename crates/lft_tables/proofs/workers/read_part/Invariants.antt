use Rattle.std.proofs.Common.{◌≡◌, ◌-◌, ◌++◌}
use Rattle.std.specs.List.{AllZip}
use Rattle.lft_tables.{specs.{inner.Records.{in_memory, IsPlain, records_left}, Records.records_of}, proofs.TableFacts.Texts}
use Rattle.lft_tables.proofs.workers.read_part.Given as goal

abbrev pub invariant-lines : goal.invariant-lines
invariant-lines g l = record {
  plain : IsPlain in_memory l.records;
  read : (first : Texts) × (records_of l.fn.text ≡ first ++ records_left in_memory l.records) × AllZip (g.K.TableReader.tells l.table) first l.items.items;
  guess : g.K.TableReader.is_guess l.table l.guess;
}

abbrev pub decreases-lines : goal.decreases-lines
decreases-lines g l = l.records.last - l.records.line
