use Rattle.std.proofs.Common.{◌≤◌, length, arith}
use Rattle.std.proofs.lemmas.List.{take_all}
use Rattle.lft_coverage.{specs.Facts.worker_line, proofs.{Taking.took_nothing, Listed.{took_items, took_one}}}
use Rattle.lft_coverage.proofs.listing.put_workers.Goals as goal

pub loop-place-init : goal.loop-place-init
loop-place-init g c = took_nothing _ _

pub loop-place-preserved : goal.loop-place-preserved
loop-place-preserved g c = took_one worker_line c.args.workers.now c.loop-place.place c.item_at-worker.result c.item_at-worker.ensures c.loop-place.invariant c.put_worker-whole.ensures

pub returns : goal.returns
returns g c =
    let l : length c.args.workers.now ≤ c.loop-place.place = omega arith in
    took_items worker_line _ c.args.workers.now (take_all c.loop-place.place c.args.workers.now l) c.loop-place.invariant
