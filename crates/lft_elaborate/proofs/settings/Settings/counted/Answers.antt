use Rattle.lft_elaborate.{specs.inner.Noted.table, proofs.{Keeping.goes_further, Using.used_goes}}
use Rattle.lft_elaborate.proofs.settings.Settings.counted.Goals as goal

pub returns-clause-goes : goal.returns-clause-goes
returns-clause-goes c = goes_further _ _ _ c.in_ok-used.ensures.goes c.in_ok-count_all.ensures.goes

pub returns-clause-used : goal.returns-clause-used
returns-clause-used c a = used_goes (table c.used.new.self) (table c.count_all.new.self) c.in_ok-count_all.ensures.goes c.in_ok-used.used.items (c.in_ok-used.ensures.used a)
