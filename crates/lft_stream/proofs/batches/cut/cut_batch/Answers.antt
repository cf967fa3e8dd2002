use Rattle.std.proofs.Common.{◌∙◌, ◌++◌, List, [], ap, length, slice_range}
use Rattle.lft_ir.specs.declared.steps.row.Row.{Row}
use Rattle.lft_stream.proofs.BatchesLemmas.Cutting.{all_wait, in_three}
use Rattle.lft_stream.proofs.batches.cut.cut_batch.Goals as goal

pub returns-then-same-batch-clause-rows : goal.returns-then-same-batch-clause-rows
returns-then-same-batch-clause-rows c =
    let first = c.in_ok-first.first.items in
    ap (λ (t : List Row). (t ++ []) ++ first) c.new.ensures.items ∙ all_wait c.args.waiting.items c.args.batch.now first c.still_open-same.result c.if-same-batch.true c.in_ok-first.ensures.rows

pub returns-clause-rows : goal.returns-clause-rows
returns-clause-rows c =
    let b = c.args.batch.now in
    let e = c.last_begins-begin.result in
    let left = c.in_ok-waiting.ensures.rows ∙ ap (λ (t : List Row). t ++ slice_range b e (length b)) c.new-2.ensures.items in
    in_three c.args.waiting.items b c.in_ok-first.first.items c.still_open-same.result e c.in_ok-waiting.waiting.items c.last_begins-begin.ensures.0 c.last_begins-begin.ensures.1 c.in_ok-first.ensures.rows left
