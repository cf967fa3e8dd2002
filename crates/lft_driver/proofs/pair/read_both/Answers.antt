use Rattle.std.proofs.Common.{inl, inr}
use Rattle.lft_driver.proofs.pair.read_both.Goals as goal

pub returns-in-Err-clause-refused : goal.returns-in-Err-clause-refused
returns-in-Err-clause-refused g c = inl c.in-Err.ensures.refused

pub returns-in-Err-clause-none : goal.returns-in-Err-clause-none
returns-in-Err-clause-none g c = λ t. inl (c.in-Err.ensures.none t)

pub returns-in-Err-read_table-clause-refused : goal.returns-in-Err-read_table-clause-refused
returns-in-Err-read_table-clause-refused g c = inr (c.in-Ok.rows, c.in-Ok.ensures.table, c.in-Err-read_table.ensures.refused)

pub returns-in-Err-read_table-clause-none : goal.returns-in-Err-read_table-clause-none
returns-in-Err-read_table-clause-none g c = λ t. inr (c.in-Err-read_table.ensures.none t)
