use Rattle.std.proofs.lemmas.Option.{IfSome_then}
use Rattle.lft_load.specs.{Refusals.PlanRefusal.{by_externals, by_graph}, Faults.table_number}
use Rattle.lft_load.proofs.Loading.{only_under, graph_none, externals_told, told_at}
use Rattle.lft_load.specs.declared.fault.Part.TheVariants as part
use Rattle.lft_load.proofs.layers.plan_from.Goals as goal

pub returns-in-Err-clause-refused : goal.returns-in-Err-clause-refused
returns-in-Err-clause-refused g c =
    IfSome_then (g.R.Read.remaining c.args.externals) c.in-Err.ensures.fault (λ text fails.
    by_externals c.in-Err.fault c.externals-fault.ensures.part c.externals-fault.ensures.number (λ t. (fails t).0))

pub returns-in-Err-clause-none : goal.returns-in-Err-clause-none
returns-in-Err-clause-none g c =
    IfSome_then (g.R.Read.remaining c.args.externals) c.in-Err.ensures.fault (λ text fails t plan x.
    let e = c.in-Err.fault in
    let told = externals_told e (told_at c.externals-fault.result.part part.Externals c.externals-fault.result.number (table_number e) c.externals-fault.ensures.part c.externals-fault.ensures.number t) in
    (fails told).1 plan.externals x.is_externals)

pub returns-in-Ok-graph_of-clause-plan : goal.returns-in-Ok-graph_of-clause-plan
returns-in-Ok-graph_of-clause-plan g c =
    only_under (g.R.Read.remaining c.args.externals) c.args.program c.in-Ok.given c.with_graph.result c.in-Ok-graph_of.ensures.no_loop
    c.in-Ok.ensures.table c.in-Ok.ensures.one c.with_graph.ensures.program c.with_graph.ensures.externals

pub returns-in-Err-graph_of-clause-refused : goal.returns-in-Err-graph_of-clause-refused
returns-in-Err-graph_of-clause-refused g c =
    IfSome_then (g.R.Read.remaining c.args.externals) c.in-Ok.ensures.table (λ text table. by_graph c.in-Ok.given table c.in-Err-graph_of.ensures.refused)

pub returns-in-Err-graph_of-clause-none : goal.returns-in-Err-graph_of-clause-none
returns-in-Err-graph_of-clause-none g c =
    IfSome_then (g.R.Read.remaining c.args.externals) c.in-Ok.ensures.table (λ text _ t plan x. graph_none c.args.program c.in-Err-graph_of.fault c.in-Err-graph_of.ensures.refused t x.no_loop)
