use Rattle.std.proofs.lemmas.Option.{MatchOption-at_some}
use Rattle.lft_load.proofs.Loading.{only_under}
use Rattle.lft_load.proofs.files.plan_shared.Goals as goal

pub returns-in-Ok-clause-plan : goal.returns-in-Ok-clause-plan
returns-in-Ok-clause-plan g c =
    let read = c.in-Ok-Some.ensures in
    let given = c.in-Ok-Some.given in
    only_under (g.R.Read.remaining c.args.reader.now.reader) c.args.program given c.with_graph.result c.in-Ok.ensures.no_loop
    (MatchOption-at_some _ _ given c.in-Ok-Some.field-0-is read.table) (MatchOption-at_some _ _ given c.in-Ok-Some.field-0-is read.one) c.with_graph.ensures.program c.with_graph.ensures.externals
