use Rattle.std.proofs.Common.{◌≤◌, length, arith}
use Rattle.std.specs.List.{enumerate_from}
use Rattle.lft_coverage.{specs.Facts.width_line, proofs.{Taking.took_nothing, Listed.{all_placed, took_items, took_one}}}
use Rattle.lft_driver.proofs.Listed.{placed_first}
use Rattle.lft_coverage.proofs.listing.put_widths.Goals as goal

pub loop-width-init : goal.loop-width-init
loop-width-init g c = took_nothing _ _

pub loop-width-preserved : goal.loop-width-preserved
loop-width-preserved g c =
    let counts = c.args.widths.now in
    let n = c.loop-width.width in
    let x = c.item_at.result in
    took_one width_line (enumerate_from 0 counts) n (n, x) (placed_first counts n x c.item_at.ensures) c.loop-width.invariant c.put_width-whole.ensures

pub returns : goal.returns
returns g c =
    let l : length c.args.widths.now ≤ c.loop-width.width = omega arith in
    took_items width_line _ (enumerate_from 0 c.args.widths.now) (all_placed c.args.widths.now c.loop-width.width l) c.loop-width.invariant
