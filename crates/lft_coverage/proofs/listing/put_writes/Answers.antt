use Rattle.std.proofs.Common.{◌≤◌, length, arith}
use Rattle.std.specs.List.{enumerate_from}
use Rattle.lft_coverage.{specs.Facts.write_line, proofs.{Taking.took_nothing, Listed.{all_placed, took_items, took_one}}}
use Rattle.lft_driver.proofs.Listed.{placed_first}
use Rattle.lft_coverage.proofs.listing.put_writes.Goals as goal

pub loop-number-init : goal.loop-number-init
loop-number-init g c = took_nothing _ _

pub loop-number-preserved : goal.loop-number-preserved
loop-number-preserved g c =
    let counts = c.args.counts.now in
    let n = c.loop-number.number in
    let x = c.item_at.result in
    took_one (write_line c.args.program.now) (enumerate_from 0 counts) n (n, x) (placed_first counts n x c.item_at.ensures) c.loop-number.invariant c.put_write-whole.ensures

pub returns : goal.returns
returns g c =
    let l : length c.args.counts.now ≤ c.loop-number.number = omega arith in
    took_items (write_line c.args.program.now) _ (enumerate_from 0 c.args.counts.now) (all_placed c.args.counts.now c.loop-number.number l) c.loop-number.invariant
