use Rattle.std.proofs.Common.{arith, refl, ◌+◌}
use Rattle.lft_syntax.{specs.Lexes.ends, proofs.Strings.{read, string_past, slash_on, slash_off, plain_on, plain_off}}
use Rattle.lft_syntax.proofs.piece.quoted_end.Goals as goal

pub returns-then-byte-eq34-clause-some : goal.returns-then-byte-eq34-clause-some
returns-then-byte-eq34-clause-some c = c.quoted.invariant.found (c.quoted.at + 1) (ends (read c.args.text.now c.quoted.at 34 c.quoted-test.true c.if-byte-eq34.true) refl)

pub returns-then-at-text-clause-none : goal.returns-then-at-text-clause-none
returns-then-at-text-clause-none c = λ j q. string_past c.args.text.now (slash_off c.args.text.now c.quoted.at j c.quoted-test.true c.if-byte-eq92.true (c.quoted.invariant.only j q)) (omega arith)

pub quoted-preserved-then-byte-eq92 : goal.quoted-preserved-then-byte-eq92
quoted-preserved-then-byte-eq92 c = record {
  order = omega arith;
  within = omega arith;
  found = λ j q. c.quoted.invariant.found j (slash_on c.args.text.now c.quoted.at j c.quoted-test.true c.if-byte-eq92.true q);
  only = λ j q. slash_off c.args.text.now c.quoted.at j c.quoted-test.true c.if-byte-eq92.true (c.quoted.invariant.only j q);
}

pub quoted-preserved : goal.quoted-preserved
quoted-preserved c = record {
  order = omega arith;
  within = omega arith;
  found = λ j q. c.quoted.invariant.found j (plain_on c.args.text.now c.quoted.at j c.quoted-test.true c.if-byte-eq34.false c.if-byte-eq92.false q);
  only = λ j q. plain_off c.args.text.now c.quoted.at j c.quoted-test.true c.if-byte-eq34.false c.if-byte-eq92.false (c.quoted.invariant.only j q);
}

pub returns-clause-none : goal.returns-clause-none
returns-clause-none c = λ j q. string_past c.args.text.now (c.quoted.invariant.only j q) c.quoted-test.false
