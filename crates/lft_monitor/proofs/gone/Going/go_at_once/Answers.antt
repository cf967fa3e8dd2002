use Rattle.std.proofs.Common.{refl}
use Rattle.lft_monitor.proofs.AtOnce.{gone_at_once, passed_rise, passed_so_far}
use Rattle.lft_monitor.proofs.gone.Going.go_at_once.Goals as goal

pub go_on-requires-clause-passed : goal.go_on-requires-clause-passed
go_on-requires-clause-passed c = passed_so_far c.args.plan.now c.requires.stands.0 c.args.rows.now c.args.self.now c.requires.stands.1

pub begin_of_last-requires : goal.begin_of_last-requires
begin_of_last-requires c = passed_rise c.args.self.now.stop c.args.plan.now c.args.rows.now c.go_on.new.self (rw c.in_default.is at c.in_ok-_found.ensures)

pub returns-clause-gone : goal.returns-clause-gone
returns-clause-gone c = λ yes done is. (gone_at_once c.args.plan.now done c.args.rows.now c.args.self.now is _ c.begin_of_last.result c.begin_of_last.ensures (rw c.in_default-first_open.is at c.first_open.ensures) (rw c.in_default.is at c.in_ok-_found.ensures) (c.requires.stays c.args.plan.now done) refl refl refl, refl)
