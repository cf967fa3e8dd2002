use Rattle.std.proofs.Common.{inr, arith}
use Rattle.lft_syntax.proofs.{Pieces.{piece_further, piece_within}, Cuts.{front_piece, front_refused, front_whole}}
use Rattle.lft_syntax.proofs.lexer.refused_at.Goals as goal

pub pieces-smaller : goal.pieces-smaller
pieces-smaller c =
    let further = piece_further c.args.text.now c.pieces.at c.in-Ok.field-0-0 c.in-Ok.end c.in-Ok.ensures.piece in
    let within = piece_within c.args.text.now c.pieces.at c.in-Ok.field-0-0 c.in-Ok.end c.in-Ok.ensures.piece in
    omega arith

pub pieces-preserved : goal.pieces-preserved
pieces-preserved c = record {
  within = piece_within c.args.text.now c.pieces.at c.in-Ok.field-0-0 c.in-Ok.end c.in-Ok.ensures.piece;
  cut = front_piece c.args.text.now c.pieces.at c.in-Ok.end c.in-Ok.field-0-0 c.pieces.invariant.cut.0 c.in-Ok.ensures.piece c.pieces.invariant.cut.1;
}

pub returns-in-Err-clause-some : goal.returns-in-Err-clause-some
returns-in-Err-clause-some c = front_refused c.args.text.now c.pieces.at c.pieces.invariant.cut.0 c.in-Err.field-0 c.pieces.invariant.cut.1 c.in-Err.ensures.fault

pub returns-clause-none : goal.returns-clause-none
returns-clause-none c =
    let whole = front_whole c.args.text.now c.pieces.at c.pieces.invariant.cut.0 (let w = c.pieces.invariant.within in let n = c.pieces-test.false in omega arith) c.pieces.invariant.cut.1 in
    inr (c.pieces.invariant.cut.0, whole.0)
