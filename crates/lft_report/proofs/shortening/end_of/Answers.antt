use Rattle.std.proofs.Common.{◌≡◌, ◌-◌, suc, arith}
use Rattle.lft_report.proofs.{Lines.{feed_more, other_more}, shortening.end_of.Goals.{then-byte-eq10, else-byte-eq10}}
use Rattle.lft_report.proofs.shortening.end_of.Goals as goal

pub loop-at-preserved : goal.loop-at-preserved
loop-at-preserved c =
    let up : c.loop-at.left ≡ suc (c.loop-at.left - 1) = omega (arith, c.if-left-eq0.false) in
    elim c.if-byte-eq10.branch [
      | then-byte-eq10 w ↦ feed_more c.args.bytes.now _ c.loop-at.at c.loop-at.left (c.loop-at.left - 1) c.item_at-byte.result up c.item_at-byte.ensures c.loop-at.invariant c.if-byte-eq10.left w.if-byte-eq10.true w.left-is
      | else-byte-eq10 w ↦ other_more c.args.bytes.now _ c.loop-at.at c.loop-at.left (c.loop-at.left - 1) c.item_at-byte.result up c.item_at-byte.ensures c.loop-at.invariant c.if-byte-eq10.left w.if-byte-eq10.false (omega (arith, w.left-is, up))
    ]
