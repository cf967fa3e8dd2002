use Rattle.lft_elaborate.{specs.inner.Noted.table, proofs.{Keeping.goes_further, Standing.pairs_are}}
use Rattle.lft_elaborate.proofs.settings.Settings.pairs.Goals as goal

pub returns-clause-goes : goal.returns-clause-goes
returns-clause-goes c = goes_further _ _ _ c.in_ok-left.ensures.goes c.in_ok-right.ensures.goes

pub returns-clause-pairs : goal.returns-clause-pairs
returns-clause-pairs c t made at = pairs_are (table c.args.self.now) (table c.all_channels.new.self) c.in_ok-left.ensures.goes c.args.setting t made at c.args.connection.now c.deref.result.now c.deref-2.result.now c.in_ok-left.left c.in_ok-right.right _ c.deref.ensures.value c.deref-2.ensures.value c.in_ok-left.ensures.places c.in_ok-right.ensures.places c.joined-pairs.ensures
