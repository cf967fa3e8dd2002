use Rattle.lft_stream.proofs.batches.shared.go_beside.Goals as goal

pub returns-clause-read : goal.returns-clause-read
returns-clause-read g c = c.in_ok-read.ensures.rows c.args.lines.now c.first_lines.ensures.cut
