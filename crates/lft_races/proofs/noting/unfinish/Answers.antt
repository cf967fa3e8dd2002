use Rattle.std.proofs.Common.{◌≡◌, ◌+◌, Bool, false, true, sym, ◌∙◌}
use Rattle.lft_races.proofs.Ending.{left_stays, left_kept, left_more}
use Rattle.lft_races.proofs.noting.unfinish.Goals as goal

pub returns-then-not-is_end-clause-more : goal.returns-then-not-is_end-clause-more
returns-then-not-is_end-clause-more c = left_stays c.args.rows.now c.args.slice c.requires.slice c.args.place c.row_at-row.result c.row_at-row.ensures c.requires.from c.requires.before c.args.unfinished.now (λ d. let z : ◌≡◌ {A = Bool} false true = sym c.if-not-is_end.true ∙ c.is_end.ensures.1 d in absurd (cc)) c.requires.so_far

pub returns-then-noted-place-clause-more : goal.returns-then-noted-place-clause-more
returns-then-noted-place-clause-more c = left_kept c.args.rows.now c.args.slice c.requires.slice c.args.place c.row_at-row.result c.row_at-row.ensures c.requires.from c.requires.before c.args.ends.now c.args.unfinished.now c.item_at-noted.result c.item_at-noted.ensures c.if-noted-place.true (c.is_end.ensures.0 c.if-not-is_end.false) c.requires.noted c.requires.so_far

pub returns-clause-more : goal.returns-clause-more
returns-clause-more c = left_more c.args.rows.now c.args.slice c.requires.slice c.args.place c.row_at-row.result c.row_at-row.ensures c.requires.from c.requires.before c.args.ends.now c.args.unfinished.now c.insert.new.self c.item_at-noted.result c.requires.runs (c.is_end.ensures.0 c.if-not-is_end.false) c.item_at-noted.ensures (let n = c.if-noted-place.false in let q : c.item_at-noted.result ≡ c.args.place + 1 = cc in q) c.requires.noted c.insert.ensures.members c.requires.so_far
