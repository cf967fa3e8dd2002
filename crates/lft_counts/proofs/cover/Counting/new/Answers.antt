use Rattle.std.proofs.Common.{replicate, ap, ◌∙◌}
use Rattle.lft_counts.proofs.Tallied.{none_counted}
use Rattle.lft_counts.proofs.cover.Counting.new.Goals as goal

pub returns : goal.returns
returns c t = none_counted c.args.program.now t _ (c.in_ok-runs.ensures ∙ ap (λ n. replicate n 0) c.reactions.ensures.count) (c.in_ok-writes.ensures ∙ ap (λ n. replicate n 0) c.ports.ensures.count) c.new-workers.ensures.none c.new-workers.ensures.listed
