use Rattle.std.proofs.Common.{rules, ◌≡◌, true, codes, string_bytes}
use Rattle.lft_trace.specs.{Faults.is_told, ExternalTables.ExternalFails}
use Rattle.lft_tables.specs.Records.{records_of}
use Rattle.lft_driver.proofs.Telling.{named}
use Rattle.lft_driver.proofs.refused.refusal_of_externals.Goals as goal

pub returns-clause-no_table : goal.returns-clause-no_table
returns-clause-no_table c =
    let is : is_told c.in-Err.fault ≡ true = search rules in
    (c.in-Err.ensures.fault is).1

pub returns-clause-tells : goal.returns-clause-tells
returns-clause-tells c =
    let e = c.in-Err.fault in
    let is : is_told e ≡ true = search rules in
    let fails : ExternalFails c.args.program.now (records_of c.args.externals.now) e = (c.in-Err.ensures.fault is).0 in
    let heads = c.in_ok-words.ensures.told fails in
    record { fault = e; fails = fails; heads = heads; field = λ n q. named (codes "External inputs") e n (string_bytes c.in_ok-words.words) _ q heads (c.in_ok-words.ensures.field n q) }
