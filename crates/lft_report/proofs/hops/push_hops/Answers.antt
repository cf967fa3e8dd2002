use Rattle.std.proofs.Common.{◌-◌, ◌<◌, ◌≤◌, length, string_bytes, arith}
use Rattle.lft_report.{specs.Hops.hop_words, proofs.Back.said_back}
use Rattle.lft_report.proofs.hops.push_hops.Goals as goal

pub loop-left-preserved : goal.loop-left-preserved
loop-left-preserved c =
    let up : 0 < c.loop-left.left = c.loop-left-test.true in
    let l : c.loop-left.left ≤ length c.args.ports.now = c.loop-left.invariant.0 in
    (omega arith, said_back (hop_words c.args.program.now c.args.tag) c.args.ports.now (string_bytes c.args.text.now) c.loop-left.left (c.loop-left.left - 1) c.item_at.result (string_bytes c.loop-left.text) (string_bytes c.push_hop.new.text) (omega arith) c.item_at.ensures c.loop-left.invariant.1 c.in_ok-push_hop.ensures)
