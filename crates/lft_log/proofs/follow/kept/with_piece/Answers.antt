use Rattle.std.proofs.Common.{◌≡◌, ◌<◌, ◌+◌, ◌^◌, ◌++◌, inl, inr, length, length-append, refl, arith}
use Rattle.lft_log.proofs.follow.kept.with_piece.Goals.{then-rows-via-then-rows, then-rows-via-else-rows+then-piece-gt-MOST, then-rows-via-else-rows+else-piece-gt-MOST+then-len-piece}
use Rattle.lft_log.proofs.follow.kept.with_piece.Goals as goal

pub returns-then-rows : goal.returns-then-rows
returns-then-rows c =
    let bytes = c.args.bytes.items in
    let piece = c.args.piece.now in
    let both : length (bytes ++ piece) ≡ length bytes + length piece = length-append bytes piece in
    inr (
      c.args.bytes,
      refl,
      elim c.then-rows.branch [
        | then-rows-via-then-rows w ↦ inr w.if-rows.true
        | then-rows-via-else-rows+then-piece-gt-MOST w ↦ (let l = w.if-piece-gt-MOST.true in let long : 2 ^ 30 < length (bytes ++ piece) = omega (arith, l, both) in inl long)
        | then-rows-via-else-rows+else-piece-gt-MOST+then-len-piece w ↦ (let l = w.if-len-piece.true in let n = w.len.ensures in let s = w.if-piece-gt-MOST.false in let long : 2 ^ 30 < length (bytes ++ piece) = omega (arith, l, both, n, s) in inl long)
      ],
    )
