use Rattle.std.proofs.Common.{sym, ◌∙◌}
use Rattle.lft_lists.proofs.Mapped.{mapped_from}
use Rattle.lft_check.proofs.by_tag.lists.ByReaction.new.Goals as goal

pub returns-clause-empty : goal.returns-clause-empty
returns-clause-empty g c r list e = let x = mapped_from (λ row. row.items) c.loop.rows.items r list e in sym x.2 ∙ c.loop.invariant.1 r x.0 x.1
