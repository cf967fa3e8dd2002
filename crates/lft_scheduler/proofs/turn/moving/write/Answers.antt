use Rattle.lft_scheduler.proofs.Frees.{frees_written}
use Rattle.lft_scheduler.proofs.turn.moving.write.Goals as goal

pub mark-requires-clause-was : goal.mark-requires-clause-was
mark-requires-clause-was c = c.requires.frees.each c.args.reaction c.seat_at-was.result c.seat_at-was.ensures

pub returns-clause-frees : goal.returns-clause-frees
returns-clause-frees c = frees_written c.args.seats.now c.args.frees.now c.mark.new.frees c.args.reaction c.seat_at-was.result c.args.seat c.requires.frees c.seat_at-was.ensures c.mark.ensures.room c.mark.ensures.here c.mark.ensures.others
