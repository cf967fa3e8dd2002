use Rattle.std.proofs.Common.{◌∙◌, length, length-append, refl, sym, arith}
use Rattle.std.proofs.lemmas.Bool.{eqb-true}
use Rattle.lft_stream.proofs.BatchesLemmas.Progressing.{none_judged}
use Rattle.lft_stream.proofs.batches.progress.JudgedRows.judge.Goals as goal

pub returns-then-is_empty : goal.returns-then-is_empty
returns-then-is_empty c _ t so = none_judged c.args.plan.now t c.args.rows.now c.args.self.now (eqb-true (length c.args.rows.now) 0 (sym c.is_empty.ensures ∙ c.if-is_empty.true)) so

pub add-requires-clause-stands : goal.add-requires-clause-stands
add-requires-clause-stands c = (c.requires.stands.0, c.requires.stands.1.stands)

pub returns : goal.returns
returns c _ t so =
    let long = length-append t c.args.rows.now in
    let few = c.if-rows-self.false in
    let left = so.left in
    record { stands = c.if-not-add.ensures refl t so.stands; left = omega (arith, long, few, left) }
