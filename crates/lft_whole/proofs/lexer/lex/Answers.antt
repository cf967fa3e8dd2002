use Rattle.std.proofs.Common.{◌≡◌, List, length, Option, Some, Result, Ok, Err, IfErr, subst, sym, ap, ◌∙◌, arith}
use Rattle.std.specs.Result.{IsErrAnd}
use Rattle.lft_syntax.{specs.declared.token.{Token.Token, TokenKind.TokenKind}, proofs.Cuts.not_some}
use Rattle.lft_whole.specs.{declared.fault.TextFault.TextFault, Pieces.{Piece, tokens_of}}
use Rattle.lft_whole.specs.inner.{Pieces.IsRefused, Tokens.{IsPiece, IsInText, StandBetween, AreTokens}}
use Rattle.lft_whole.proofs.{Between.{between_blank, between_push}, Cuts.{Front, front_starts, front_token, front_blank, front_refused, front_whole}}
use Rattle.lft_whole.proofs.lexer.lex.Goals as goal

handed_on : {A : Type 0} (P : TextFault → Type 0) (e : TextFault) (r : Result A TextFault) → P e → IsErrAnd r (λ x. x ≡ e) → IfErr r P
handed_on P e (Ok v) p h = tt
handed_on P e (Err x) p h = subst P (sym h) p

pub pieces-init : goal.pieces-init
pieces-init c =
    record {
      within = omega arith;
      between = subst (λ (l : List Token). StandBetween c.args.text.now 0 l 0) (sym c.new-tokens.ensures.items) (omega arith);
      front = subst (λ (l : List Token). Front c.args.text.now l 0) (sym c.new-tokens.ensures.items) (front_starts c.args.text.now);
    }

pub returns-in_err-kind-clause-refused : goal.returns-in_err-kind-clause-refused
returns-in_err-kind-clause-refused c =
    let err = c.in_err-kind.ensures.err in
    let here = front_refused c.args.text.now c.pieces.tokens.items c.pieces.at c.pieces.invariant.front c.pieces-test.true err.0 in
    handed_on (IsRefused c.args.text.now) c.in_err-kind.field-0.0 c.from_residual.result (subst (IsRefused c.args.text.now) (sym err.1) here) c.from_residual.ensures.1

pub returns-in_err-kind-clause-fault : goal.returns-in_err-kind-clause-fault
returns-in_err-kind-clause-fault c =
    let err = c.in_err-kind.ensures.err in
    handed_on (IsInText c.args.text.now) c.in_err-kind.field-0.0 c.from_residual.result (subst (IsInText c.args.text.now) (sym err.1) c.pieces-test.true) c.from_residual.ensures.1

pub pieces-smaller-in_ok-push : goal.pieces-smaller-in_ok-push
pieces-smaller-in_ok-push c =
    let piece = c.in_ok-kind.ensures.ok.1 in
    omega (arith, piece.0, piece.1)

pub pieces-preserved-in_ok-push : goal.pieces-preserved-in_ok-push
pieces-preserved-in_ok-push c =
    let text = c.args.text.now in
    let tokens = c.pieces.tokens.items in
    let read = c.in_ok-kind.ensures.ok.0 in
    let piece = c.in_ok-kind.ensures.ok.1 in
    let here = subst (λ k. IsPiece text c.pieces.at k c.in_ok-kind.end) c.in-Some.is piece in
    let token : Token = record { kind = c.in-Some.kind; start = c.pieces.at; end = c.in_ok-kind.end } in
    let some : Option TokenKind → Option Piece = λ k. Some (k, c.in_ok-kind.end) in
    let longer = between_push text 0 tokens c.pieces.at token (omega arith) here c.pieces.invariant.between in
    let further = front_token text tokens token c.pieces.invariant.front c.pieces-test.true (read ∙ ap some c.in-Some.is) piece.0 in
    record {
      within = piece.1;
      between = subst (λ (l : List Token). StandBetween text 0 l c.in_ok-kind.end) (sym c.in_ok-push.ensures.items) longer;
      front = subst (λ (l : List Token). Front text l c.in_ok-kind.end) (sym c.in_ok-push.ensures.items) further;
    }

pub pieces-smaller : goal.pieces-smaller
pieces-smaller c =
    let piece = c.in_ok-kind.ensures.ok.1 in
    omega (arith, piece.0, piece.1)

pub pieces-preserved : goal.pieces-preserved
pieces-preserved c =
    let text = c.args.text.now in
    let tokens = c.pieces.tokens.items in
    let read = c.in_ok-kind.ensures.ok.0 in
    let piece = c.in_ok-kind.ensures.ok.1 in
    let some : Option TokenKind → Option Piece = λ k. Some (k, c.in_ok-kind.end) in
    record {
      within = piece.1;
      between = between_blank text 0 tokens c.pieces.at c.in_ok-kind.end (omega (arith, piece.0)) c.pieces.invariant.between;
      front = front_blank text tokens c.pieces.at c.in_ok-kind.end c.pieces.invariant.front c.pieces-test.true (read ∙ ap some (not_some c.in_ok-kind.kind c.in_default.not-Some)) piece.0;
    }

pub returns-clause-read : goal.returns-clause-read
returns-clause-read c =
    let whole = front_whole c.args.text.now c.pieces.tokens.items c.pieces.at c.pieces.invariant.front c.pieces-test.false in
    subst (λ (l : List Token). tokens_of c.args.text.now ≡ Ok l) (sym c.from_vec.ensures) whole

pub returns-clause-tokens : goal.returns-clause-tokens
returns-clause-tokens c =
    subst (λ (l : List Token). AreTokens c.args.text.now l) (sym c.from_vec.ensures) (between_blank c.args.text.now 0 c.pieces.tokens.items c.pieces.at (length c.args.text.now) c.pieces.invariant.within c.pieces.invariant.between)
