use Rattle.std.proofs.Common.{◌≤◌, length, arith}
use Rattle.lft_check.proofs.Counts.{few_slices}
use Rattle.lft_check.proofs.shares.examine_share.Goals as goal

pub share_begins-low-requires : goal.share_begins-low-requires
share_begins-low-requires g c =
    let few : length c.args.slices.now ≤ length c.args.sliced.now.rows = few_slices c.args.sliced.now c.keeps.ensures.rules c.args.slices.now c.requires.slices in
    let rows : length c.args.sliced.now.rows ≤ 4000000 = c.keeps.ensures.rules.fit.few in
    let inside = c.requires.workers in
    (omega arith, inside.1, omega arith, omega arith)

pub share_begins-high-requires : goal.share_begins-high-requires
share_begins-high-requires g c =
    let few : length c.args.slices.now ≤ length c.args.sliced.now.rows = few_slices c.args.sliced.now c.keeps.ensures.rules c.args.slices.now c.requires.slices in
    let rows : length c.args.sliced.now.rows ≤ 4000000 = c.keeps.ensures.rules.fit.few in
    let inside = c.requires.workers in
    (omega arith, inside.1, omega arith, omega arith)
