use Rattle.std.proofs.Common.{refl, ap}
use Rattle.lft_stream.{specs.inner.Outlines.has_effect, proofs.Outlining.{with_start, with_read, with_effect, with_end}}
use Rattle.lft_stream.proofs.outline.Outline.pass.Goals as goal

pub returns-in-Start : goal.returns-in-Start
returns-in-Start c = λ z is. with_start c.args.own.now c.args.place c.row_at-row.result c.row_at-row.ensures c.args.self.now _ is c.in-Start.is (c.add.ensures z) refl refl

pub returns-in-Read : goal.returns-in-Read
returns-in-Read c = λ z is. with_read c.args.own.now c.args.place c.row_at-row.result c.row_at-row.ensures c.args.self.now _ is _ _ c.in-Read.is refl refl refl

pub returns-in-Write : goal.returns-in-Write
returns-in-Write c = λ z is. with_effect c.args.own.now c.args.place c.row_at-row.result c.row_at-row.ensures c.args.self.now _ is (ap has_effect c.in-Write.is) refl refl (c.up_to-self.ensures c.args.own.now is.effects)

pub returns-in-Schedule : goal.returns-in-Schedule
returns-in-Schedule c = λ z is. with_effect c.args.own.now c.args.place c.row_at-row.result c.row_at-row.ensures c.args.self.now _ is (ap has_effect c.in-Schedule.is) refl refl (c.up_to-self-in-Schedule.ensures c.args.own.now is.effects)

pub returns-in-Stop : goal.returns-in-Stop
returns-in-Stop c = λ z is. with_effect c.args.own.now c.args.place c.row_at-row.result c.row_at-row.ensures c.args.self.now _ is (ap has_effect c.in-Stop.is) refl refl (c.up_to-self-in-Stop.ensures c.args.own.now is.effects)

pub returns-in-End : goal.returns-in-End
returns-in-End c = λ z is. with_end c.args.own.now c.args.place c.row_at-row.result c.row_at-row.ensures c.args.self.now _ is c.in-End.is refl refl refl
