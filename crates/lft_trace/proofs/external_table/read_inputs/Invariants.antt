use Rattle.std.proofs.Common.{◌-◌, IfSome}
use Rattle.lft_tables.specs.Records.{records_of}
use Rattle.lft_trace.proofs.ExternalFacts.{Fitting, Gathered}
use Rattle.lft_trace.proofs.external_table.read_inputs.Given as goal

abbrev pub invariant-lines : goal.invariant-lines
invariant-lines g l = record {
  known : IfSome (g.R.Read.remaining l.fn.source) (λ text. Gathered g.R.Read.remaining l.program (records_of text) l.stop l.events l.records);
  fitting : Fitting l.program l.stop l.events l.records;
}

abbrev pub decreases-lines : goal.decreases-lines
decreases-lines g l = l.records.last - l.records.line
