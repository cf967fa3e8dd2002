use Rattle.std.proofs.Common.{◌++◌, ap, ◌∙◌, codes, arith}
use Rattle.std.specs.Prelude.{zip}
use Rattle.lft_ir.proofs.WordsLemmas.Steps.{said_all, said_more}
use Rattle.lft_program_diagnostics.{specs.Loops.{step_words, turned_by_one}, proofs.Turned.zip_short}
use Rattle.lft_lists.proofs.Mapped.{pair_at}
use Rattle.lft_program_diagnostics.proofs.loops.tell_loop.Goals as goal

pub push_step-requires-clause-second : goal.push_step-requires-clause-second
push_step-requires-clause-second c = c.requires c.next_of.ensures.among.0 c.next_of.result c.next_of.ensures.among.1

pub loop-place-preserved : goal.loop-place-preserved
loop-place-preserved c =
    let all = c.args.reactions.now in
    let here = pair_at all (turned_by_one all) c.loop-place.place c.item_at-first.result c.next_of.result c.item_at-first.ensures c.next_of.ensures.next in
    said_more (λ p. step_words c.args.program.now p.0 p.1) (zip all (turned_by_one all)) c.loop-place.place (c.item_at-first.result, c.next_of.result) (codes "Program: these reactions wait for one another at one tag.\n") _ _ here c.loop-place.invariant c.in_ok-push_step.ensures

pub returns : goal.returns
returns c =
    let all = c.args.reactions.now in
    let short = zip_short all (turned_by_one all) in
    c.in_ok-push_str-2.ensures.bytes
    ∙ ap (λ z. z ++ codes "  A delay on one of these connections, as `after 0`, breaks the loop.\n") (said_all (λ p. step_words c.args.program.now p.0 p.1) (zip all (turned_by_one all)) c.loop-place.place (codes "Program: these reactions wait for one another at one tag.\n") _ (omega arith) c.loop-place.invariant)
