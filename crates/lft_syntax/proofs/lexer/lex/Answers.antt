use Rattle.std.proofs.Common.{◌≡◌, List, Result, Ok, Err, IfErr, arith, sym, subst}
use Rattle.std.specs.Result.{IsErrAnd}
use Rattle.lft_syntax.specs.{declared.{token.Token.Token, fault.LexFault.LexFault}, Lexes.{Lexes, LexFails, Piece}}
use Rattle.lft_syntax.proofs.{Pieces.{piece_further, piece_within}, Cuts.{Front, front_blank, front_token, front_whole, front_fault, not_some}}
use Rattle.lft_syntax.proofs.lexer.lex.Goals as goal

handed_on : {A : Type 0} (P : LexFault → Type 0) (e : LexFault) (r : Result A LexFault) → P e → IsErrAnd r (λ x. x ≡ e) → IfErr r P
handed_on P e (Ok v) p h = tt
handed_on P e (Err x) p h = subst P (sym h) p

pub returns-in_err-kind-clause-fault : goal.returns-in_err-kind-clause-fault
returns-in_err-kind-clause-fault c = handed_on (LexFails c.args.text.now) c.in_err-kind.field-0.0 c.from_residual.result (front_fault c.args.text.now c.pieces.at c.pieces.tokens.items c.in_err-kind.field-0.0 (omega (arith, c.if-text-gt-MAX_LENGTH.false)) c.pieces.invariant.cut c.in_err-kind.ensures.fault) c.from_residual.ensures.1

pub pieces-smaller-in_ok-push : goal.pieces-smaller-in_ok-push
pieces-smaller-in_ok-push c =
    let further = piece_further c.args.text.now c.pieces.at c.in_ok-kind.kind c.in_ok-kind.end c.in_ok-kind.ensures.piece in
    let within = piece_within c.args.text.now c.pieces.at c.in_ok-kind.kind c.in_ok-kind.end c.in_ok-kind.ensures.piece in
    omega arith

pub pieces-preserved-in_ok-push : goal.pieces-preserved-in_ok-push
pieces-preserved-in_ok-push c = record {
  within = piece_within c.args.text.now c.pieces.at c.in_ok-kind.kind c.in_ok-kind.end c.in_ok-kind.ensures.piece;
  cut =
      let here = subst (λ k. Piece c.args.text.now c.pieces.at k c.in_ok-kind.end) c.in-Some.is c.in_ok-kind.ensures.piece in
      let longer = front_token c.args.text.now c.pieces.at c.in_ok-kind.end c.in-Some.kind c.pieces.tokens.items here c.pieces.invariant.cut in
      subst (λ l. Front c.args.text.now c.in_ok-kind.end l) (sym c.in_ok-push.ensures.items) longer;
}

pub pieces-smaller : goal.pieces-smaller
pieces-smaller c =
    let further = piece_further c.args.text.now c.pieces.at c.in_ok-kind.kind c.in_ok-kind.end c.in_ok-kind.ensures.piece in
    let within = piece_within c.args.text.now c.pieces.at c.in_ok-kind.kind c.in_ok-kind.end c.in_ok-kind.ensures.piece in
    omega arith

pub pieces-preserved : goal.pieces-preserved
pieces-preserved c = record {
  within = piece_within c.args.text.now c.pieces.at c.in_ok-kind.kind c.in_ok-kind.end c.in_ok-kind.ensures.piece;
  cut = front_blank c.args.text.now c.pieces.at c.in_ok-kind.end c.in_ok-kind.kind c.pieces.tokens.items (not_some c.in_ok-kind.kind c.in_default.not-Some) c.in_ok-kind.ensures.piece c.pieces.invariant.cut;
}

pub returns-clause-tokens : goal.returns-clause-tokens
returns-clause-tokens c =
    let whole = front_whole c.args.text.now c.pieces.at c.pieces.tokens.items (let w = c.pieces.invariant.within in let n = c.pieces-test.false in omega arith) c.pieces.invariant.cut in
    subst (λ l. Lexes c.args.text.now l × ((other : List Token) → Lexes c.args.text.now other → other ≡ l)) (sym c.from_vec.ensures) whole
