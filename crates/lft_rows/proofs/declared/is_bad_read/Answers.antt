use Rattle.std.proofs.Common.{refl}
use Rattle.lft_rows.proofs.Rereads.{no_seat, read_again, was_read}
use Rattle.lft_rows.proofs.declared.is_bad_read.Goals as goal

pub returns-in-Some : goal.returns-in-Some
returns-in-Some c =
    let program = c.args.program.now in
    let x = c.in-Some.ensures.0 in
    let own = c.in-Some.ensures.1 in
    let mark = c.requires.marks.right c.args.row.reaction c.in-Some.seat c.of.result x c.args.name own c.in-Some.ensures.2 c.of.ensures in
    (λ e. read_again program c.args.rows.now c.args.place c.args.row c.requires.rising x own c.args.name c.of.result mark (c.was_at.ensures.0 e), λ b. c.was_at.ensures.1 (was_read program c.args.rows.now c.args.place c.args.row c.requires.rising x own c.args.name c.of.result mark c.in-Some.seat c.in-Some.ensures.2 b))

pub returns-in-None : goal.returns-in-None
returns-in-None c = (λ e. no_seat c.args.program.now c.args.rows.now c.args.place c.args.row c.requires.rising c.in-None.ensures.0 c.in-None.ensures.1 c.args.name c.in-None.ensures.2, λ b. refl)
