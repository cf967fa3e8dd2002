use Rattle.lft_check.proofs.ByTagLemmas.Firings.{due_at, due_behind}
use Rattle.lft_check.proofs.by_tag.missing.first_time.Goals as goal

pub returns-then-low-eq0-clause-first : goal.returns-then-low-eq0-clause-first
returns-then-low-eq0-clause-first c = due_at c.args.low c.if-low-eq0.true

pub returns-clause-first : goal.returns-clause-first
returns-clause-first c = due_behind c.args.low c.if-low-eq0.false
