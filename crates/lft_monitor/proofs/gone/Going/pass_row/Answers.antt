use Rattle.std.proofs.Common.{◌+◌, arith, sym, subst, None, slice_range}
use Rattle.lft_stream.proofs.Parting.{range_fits}
use Rattle.lft_lists.proofs.Places.{get_there}
use Rattle.lft_rows.specs.{inner.Passes.HasGoneOn, declared.pass.Pass.Pass}
use Rattle.lft_monitor.proofs.Passing.{bad_here, gone_on, grown_own}
use Rattle.lft_monitor.proofs.gone.Going.pass_row.Goals as goal

pub go_on-requires-clause-fit : goal.go_on-requires-clause-fit
go_on-requires-clause-fit c = range_fits c.args.rows.now 0 (c.args.place + 1) (omega arith) (omega arith) c.args.plan.now.program c.requires.fit

pub go_on-requires-clause-passed : goal.go_on-requires-clause-passed
go_on-requires-clause-passed c = let x = get_there c.args.rows.now c.args.place c.requires.place in grown_own c.args.rows.now c.args.place x.0 x.1 c.args.plan.now c.requires.stands.0 c.args.self.now c.requires.passed c.requires.stands.1

pub returns-in-Some : goal.returns-in-Some
returns-in-Some c = λ done is. let x = get_there c.args.rows.now c.args.place c.requires.place in bad_here c.args.rows.now c.args.place x.0 x.1 c.args.plan.now done c.args.self.now c.requires.passed is c.requires.ended _ _ _ (rw c.in-Some.is at c.in_ok-found.ensures)

pub note-requires-clause-recorded : goal.note-requires-clause-recorded
note-requires-clause-recorded c = (c.requires.fit.each c.args.place c.row_at.result c.row_at.ensures).recorded

pub returns : goal.returns
returns c = λ done is.
    let gone = subst (λ (p : Pass). HasGoneOn c.args.self.now.stop c.args.plan.now (slice_range c.args.rows.now 0 (c.args.place + 1)) p None) (sym c.note.ensures.pass) (rw c.in_default.is at c.in_ok-found.ensures) in
    (gone_on c.args.rows.now c.args.place c.row_at.result c.row_at.ensures c.args.plan.now done c.args.self.now c.requires.passed is c.requires.ended c.note.new.self gone c.note.ensures.passed c.note.ensures.runs c.note.ensures.stop, c.note.ensures.passed)
