use Rattle.std.proofs.Common.{◌++◌, List, Contains, refl, sym, subst}
use Rattle.lft_ir.{specs.{Parts.inputs, declared.parts.Name.Name}, proofs.Naming.input_known}
use Rattle.lft_lists.proofs.{Members.contains_mem, Places.get_there}
use Rattle.lft_queue.proofs.ComingLemmas.AtOnce.{input_awaited}
use Rattle.lft_stream.proofs.Meeting.{reads_present}
use Rattle.lft_stream.proofs.reads.has_read.Goals as goal

pub returns-then-serves : goal.returns-then-serves
returns-then-serves c = λ z d u shown known reads.
    let plan = c.args.plan.now in
    let r = c.args.reaction in
    let there = get_there plan.program.reactions r c.requires.reaction in
    let x = there.0 in
    let is = there.1 in
    let served = c.if-serves.ensures refl in
    reads_present plan (d ++ u) c.args.rows.now c.args.slice.tag r x is c.args.presence.now.names.items (reads served) (λ n i. let m = contains_mem n (inputs x) i in known served d c.args.writes.now n shown (input_known plan.program c.program.ensures.sound.sound r x is n m) (input_awaited plan.program r x is n m)) (λ n i m. c.has_read_present.ensures z x n is i (subst (λ (ns : List Name). Contains ns n) (sym c.names.ensures) m))
