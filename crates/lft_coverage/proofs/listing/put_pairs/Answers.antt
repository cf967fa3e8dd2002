use Rattle.std.proofs.Common.{◌≡◌, ◌≤◌, length, arith, Some, slice_get}
use Rattle.std.specs.List.{enumerate_from}
use Rattle.lft_lists.proofs.Places.{get_there}
use Rattle.lft_ir.specs.declared.parts.Reaction.{Reaction}
use Rattle.lft_coverage.{specs.Facts.pair_lines, proofs.{Taking.took_nothing, Listed.{all_placed, took_items, took_one}}}
use Rattle.lft_driver.proofs.Listed.{placed_first}
use Rattle.lft_coverage.proofs.listing.put_pairs.Goals as goal

pub loop-number-init : goal.loop-number-init
loop-number-init g c = took_nothing _ _

pub loop-number-preserved : goal.loop-number-preserved
loop-number-preserved g c =
    let program = c.args.program.now in
    let n = c.loop-number.number in
    let reactions = program.reactions in
    let x : (x : Reaction) × (slice_get c.args.program.now.reactions c.loop-number.number ≡ Some x) = get_there reactions n (omega arith) in
    took_one (λ d. pair_lines program c.args.overlaps.now d.0) (enumerate_from 0 reactions) n (n, x.0) (placed_first reactions n x.0 x.1) c.loop-number.invariant c.put_met-whole.ensures

pub returns : goal.returns
returns g c =
    let program = c.args.program.now in
    let l : length c.args.program.now.reactions ≤ c.loop-number.number = omega arith in
    took_items (λ d. pair_lines program c.args.overlaps.now d.0) _ (enumerate_from 0 program.reactions) (all_placed program.reactions c.loop-number.number l) c.loop-number.invariant
