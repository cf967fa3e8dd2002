use Rattle.std.proofs.Common.{◌≡◌, true, false, arith}
use Rattle.lft_program_diagnostics.{specs.Loops.is_fed, proofs.Firsts.{found_here, found_later, found_none}}
use Rattle.lft_program_diagnostics.proofs.loops.first_fed.Goals as goal

pub returns-then-is_fed : goal.returns-then-is_fed
returns-then-is_fed c =
    let holds : is_fed c.args.program.now c.args.effects.now c.item_at-name.result ≡ true = cc in
    found_here _ c.args.names.now c.loop-place.place c.item_at-name.result c.item_at-name.ensures holds c.loop-place.invariant

pub loop-place-preserved : goal.loop-place-preserved
loop-place-preserved c =
    let fails : is_fed c.args.program.now c.args.effects.now c.item_at-name.result ≡ false = cc in
    found_later _ c.args.names.now c.loop-place.place c.item_at-name.result c.item_at-name.ensures fails c.loop-place.invariant

pub returns : goal.returns
returns c = found_none _ c.args.names.now c.loop-place.place (omega arith) c.loop-place.invariant
