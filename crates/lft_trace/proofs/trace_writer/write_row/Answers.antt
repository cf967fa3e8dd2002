use Rattle.std.proofs.Common.{arith}
use Rattle.lft_trace.proofs.trace_writer.write_row.Goals as goal

pub returns-clause-words : goal.returns-clause-words
returns-clause-words c = (omega arith, c.step_value.ensures.word)
