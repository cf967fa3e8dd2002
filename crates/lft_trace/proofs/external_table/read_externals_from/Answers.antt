use Rattle.std.proofs.lemmas.{Option.IfSome_then, Result.{IfErr-weaker, IfOk-weaker}}
use Rattle.lft_tables.specs.Records.{records_of}
use Rattle.lft_trace.proofs.ExternalTableFacts.{no_table, one_table}
use Rattle.lft_trace.proofs.external_table.read_externals_from.Goals as goal

pub returns-clause-one : goal.returns-clause-one
returns-clause-one g c =
    IfOk-weaker c.read_inputs.result _ _ (λ inputs known. IfSome_then (g.R.Read.remaining c.args.source) known (λ text table other. one_table c.args.program.now (records_of text) inputs other c.keeps.ensures.sound table)) c.read_inputs.ensures.table

pub returns-clause-fault : goal.returns-clause-fault
returns-clause-fault g c =
    IfErr-weaker c.read_inputs.result _ _ (λ e known. IfSome_then (g.R.Read.remaining c.args.source) known (λ text fails told. (fails told, λ inputs. no_table c.args.program.now (records_of text) e inputs c.keeps.ensures.sound (fails told)))) c.read_inputs.ensures.fault
