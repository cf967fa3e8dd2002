use Rattle.std.proofs.Common.{◌+◌, ◌<◌, List, Option, length, sym, subst, arith}
use Rattle.lft_lists.proofs.Places.{get_there}
use Rattle.lft_ir.specs.{declared.steps.row.Step.Step, Steps.Fits.StepFits}
use Rattle.lft_queue.specs.{inner.{Reading.is_read, Coming.{Channels.AreCarried, Writes.AreFewer}}, declared.coming.writes.Written.Written}
use Rattle.lft_queue.proofs.ComingLemmas.{Clearing.{clear_up, fewer_same, fewer_set}, Carrying.{carried_stays, carried_again, carried_now}}
use Rattle.lft_tag.proofs.Order.{UpTo-trans}
use Rattle.lft_queue.proofs.coming.channels.carry_row.Goals as goal

pub returns-in_default-clause-carried : goal.returns-in_default-clause-carried
returns-in_default-clause-carried c = λ z u count start h up clear is are. carried_stays c.args.program.now (is_read c.args.program.now) u count c.args.row is start c.args.coming.now c.args.writes.now h are c.in_default.ensures

pub returns-in_default-take-clause-carried : goal.returns-in_default-take-clause-carried
returns-in_default-take-clause-carried c = λ z u count start h up clear is are.
    let program = c.args.program.now in
    let row = c.args.row in
    let old = c.args.coming.now in
    let writes = c.args.writes.now in
    let o = c.in-Some.port in
    let there : o < length program.ports = subst (λ (s : Step). StepFits program s) c.in-Some.ensures c.requires.fits.step in
    let within : o < length writes = let a = c.requires.ports in omega arith in
    let w = get_there writes o within in
    subst (λ (ws : List (Option Written)). AreCarried program (is_read program) u row.tag h (count + 1) start old ws) (sym c.take.ensures.taken) (carried_again program (is_read program) u count row is start old writes h are o c.in-Some.field-0-1 c.in-Some.ensures within w.0 w.1 (sym (c.in_default-take.ensures.value w.0 w.1)))

pub returns-clause-carried : goal.returns-clause-carried
returns-clause-carried c = λ z u count start h up clear is are.
    let program = c.args.program.now in
    let row = c.args.row in
    let old = c.args.coming.now in
    let writes = c.args.writes.now in
    let o = c.in-Some.port in
    let there : o < length program.ports = subst (λ (s : Step). StepFits program s) c.in-Some.ensures c.requires.fits.step in
    let within : o < length writes = let a = c.requires.ports in omega arith in
    let w = get_there writes o within in
    subst (λ (ws : List (Option Written)). AreCarried program (is_read program) u row.tag h (count + 1) start c.carry.new.coming ws) (sym c.take.ensures.taken) (carried_now program (is_read program) u count row is start old writes h are o c.in-Some.field-0-1 c.in-Some.ensures within w.0 w.1 c.args.channels.now.delayed c.requires.channels.delayed c.delayed.result.now c.delayed.ensures c.in-Some-take.value (sym (c.in-Some-take.ensures.value w.0 w.1)) c.carry.new.coming (λ events k n below. c.carry.ensures.put z events k n (UpTo-trans k h c.args.last below up) (clear_up c.carry.new.coming.clash k h below clear)))

pub returns-in_default-clause-fewer : goal.returns-in_default-clause-fewer
returns-in_default-clause-fewer c = fewer_same c.args.writes.now

pub returns-in_default-take-clause-fewer : goal.returns-in_default-take-clause-fewer
returns-in_default-take-clause-fewer c =
    let there : c.in-Some.port < length c.args.program.now.ports = subst (λ (s : Step). StepFits c.args.program.now s) c.in-Some.ensures c.requires.fits.step in
    let within : c.in-Some.port < length c.args.writes.now = let a = c.requires.ports in omega arith in
    subst (λ (ws : List (Option Written)). AreFewer c.args.writes.now ws) (sym c.take.ensures.taken) (fewer_set c.args.writes.now c.in-Some.port within)

pub returns-clause-fewer : goal.returns-clause-fewer
returns-clause-fewer c =
    let there : c.in-Some.port < length c.args.program.now.ports = subst (λ (s : Step). StepFits c.args.program.now s) c.in-Some.ensures c.requires.fits.step in
    let within : c.in-Some.port < length c.args.writes.now = let a = c.requires.ports in omega arith in
    subst (λ (ws : List (Option Written)). AreFewer c.args.writes.now ws) (sym c.take.ensures.taken) (fewer_set c.args.writes.now c.in-Some.port within)
