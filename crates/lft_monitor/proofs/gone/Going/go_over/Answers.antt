use Rattle.lft_monitor.proofs.gone.Going.go_over.Goals as goal

pub go_by_rows-requires-2-clause-stands : goal.go_by_rows-requires-2-clause-stands
go_by_rows-requires-2-clause-stands c = (c.requires.stands.0, c.in_ok-begin.ensures c.requires.stands.0 c.args.rows.now c.requires.stands.2)
