use Rattle.std.proofs.Common.{rules}
use Rattle.csv.specs.Records.{fields_of}
use Rattle.lft_trace.proofs.Sized.{eight}
use Rattle.lft_trace.proofs.fields.TraceFields.of.Goals as goal

pub returns-clause-some : goal.returns-clause-some
returns-clause-some c = let e = eight (fields_of c.args.fields.now) (search rules) in search rules
