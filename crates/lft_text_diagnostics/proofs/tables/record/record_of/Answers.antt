use Rattle.std.proofs.Common.{slice_get, sym, ap, ◌∙◌, arith}
use Rattle.lft_tables.specs.Records.{records_of}
use Rattle.lft_text_diagnostics.proofs.TablesLemmas.Drops.{first_left, left_more, none_left}
use Rattle.lft_text_diagnostics.proofs.tables.record.record_of.Goals as goal

pub loop-before-preserved : goal.loop-before-preserved
loop-before-preserved c =
    let all = records_of c.args.text.now in
    let n = c.loop-before._before in
    let found = c.in-Ok-true.ensures.found c.in-Ok-true.field-0-test c.loop-before.invariant.plain in
    let left = sym c.loop-before.invariant.left ∙ found.left in
    record {
      plain = found.plain;
      left = sym (left_more all _ n _ left);
      last = λ _. ap (λ m. slice_get all m) (omega arith) ∙ first_left all _ n _ left;
    }

pub returns-in-Ok-false-clause-none : goal.returns-in-Ok-false-clause-none
returns-in-Ok-false-clause-none c fields (before, is, at) =
    none_left (records_of c.args.text.now) c.loop-before._before before fields (sym c.loop-before.invariant.left ∙ c.in-Ok-false.ensures.none c.in-Ok-false.field-0-test c.loop-before.invariant.plain) (omega arith) at
