use Rattle.std.proofs.Common.{subst, ap, ◌∙◌, map}
use Rattle.lft_counts.{specs.{Overlaps.Overlap, Orders.cleared}, proofs.Laying.cleared_all}
use Rattle.lft_counts.proofs.cover.Cover.new.Goals as goal

pub returns-clause-covers : goal.returns-clause-covers
returns-clause-covers c t = record { counted = c.in_ok-counting.ensures t; met = c.in_ok-orders.ensures.stands t; overlapped = subst (λ m. Overlap t m 0 c.in_ok-overlaps.overlaps) c.reactions.ensures.count (c.in_ok-overlaps.ensures t); inputs = c.in_ok-inputs.ensures }

pub returns-clause-listed : goal.returns-clause-listed
returns-clause-listed c = ap (λ all. map cleared all) c.in_ok-orders.ensures.all ∙ cleared_all 0 c.args.graph.now.before
