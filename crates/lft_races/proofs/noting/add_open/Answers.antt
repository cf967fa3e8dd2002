use Rattle.std.proofs.Common.{◌≡◌, Bool, false, true, sym, ◌∙◌, arith}
use Rattle.lft_races.proofs.Ending.{open_stays, open_kept, open_more}
use Rattle.lft_races.proofs.noting.add_open.Goals as goal

pub returns-then-not-is_start-clause-more : goal.returns-then-not-is_start-clause-more
returns-then-not-is_start-clause-more c = open_stays c.args.rows.now c.args.slice c.requires.slice c.args.place c.row_at-row.result c.row_at-row.ensures c.requires.from c.requires.before c.args.left.now (λ d. let z : ◌≡◌ {A = Bool} false true = sym c.if-not-is_start.true ∙ c.is_start.ensures.1 d in absurd (cc)) c.requires.so_far

pub returns-then-slice-noted-clause-more : goal.returns-then-slice-noted-clause-more
returns-then-slice-noted-clause-more c = open_kept c.args.rows.now c.args.slice c.requires.slice c.args.place c.row_at-row.result c.row_at-row.ensures c.requires.from c.requires.before c.args.ends.now c.args.left.now c.item_at-noted.result c.item_at-noted.ensures c.if-slice-noted.true c.requires.noted c.requires.so_far

pub returns-clause-more : goal.returns-clause-more
returns-clause-more c = open_more c.args.rows.now c.args.slice c.requires.slice c.args.place c.row_at-row.result c.row_at-row.ensures c.requires.from c.requires.before c.args.ends.now c.args.left.now c.insert.new.self c.item_at-noted.result (c.is_start.ensures.0 c.if-not-is_start.false) c.item_at-noted.ensures (let n = c.if-slice-noted.false in omega arith) c.requires.noted c.insert.ensures.members c.requires.so_far
