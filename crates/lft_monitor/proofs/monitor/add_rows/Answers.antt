use Rattle.lft_monitor.proofs.monitor.add_rows.Goals as goal

pub add_kept-requires-clause-kept : goal.add_kept-requires-clause-kept
add_kept-requires-clause-kept c = c.requires.kept c.if-is_kept.true
