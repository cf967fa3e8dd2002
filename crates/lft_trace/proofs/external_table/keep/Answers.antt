use Rattle.std.proofs.Common.{rules, ◌≡◌, true, refl}
use Rattle.lft_trace.proofs.external_table.keep.Goals as goal

pub returns-in-Ok-true-clause-kept : goal.returns-in-Ok-true-clause-kept
returns-in-Ok-true-clause-kept c =
    let t : c.in-Ok-true.field-0 ≡ true = search rules in
    rw c.in-Happens.is (refl, c.in-Ok-true.ensures.apart t, c.in-Ok-true.ensures.added t)
