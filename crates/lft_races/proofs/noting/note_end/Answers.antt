use Rattle.std.proofs.Common.{◌≡◌, Bool, false, true, refl, sym, ◌∙◌, arith}
use Rattle.lft_races.proofs.Ending.{note_stays, note_kept, note_first}
use Rattle.lft_races.proofs.noting.note_end.Goals as goal

pub returns-then-not-is_end-clause-noted : goal.returns-then-not-is_end-clause-noted
returns-then-not-is_end-clause-noted c = note_stays c.args.rows.now c.args.slice c.requires.slice c.args.place c.row_at-row.result c.row_at-row.ensures c.requires.from c.requires.before c.args.ends.now (λ d. let z : ◌≡◌ {A = Bool} false true = sym c.if-not-is_end.true ∙ c.is_end.ensures.1 d in absurd (cc)) c.requires.so_far

pub returns-then-slice-noted-clause-noted : goal.returns-then-slice-noted-clause-noted
returns-then-slice-noted-clause-noted c = note_kept c.args.rows.now c.args.slice c.requires.slice c.args.place c.row_at-row.result c.row_at-row.ensures c.requires.from c.requires.before c.args.ends.now c.item_at-noted.result c.item_at-noted.ensures c.if-slice-noted.true c.requires.so_far

pub returns-clause-noted : goal.returns-clause-noted
returns-clause-noted c = note_first c.args.rows.now c.args.slice c.requires.slice c.args.place c.row_at-row.result c.row_at-row.ensures c.requires.from c.requires.before c.args.ends.now _ c.item_at-noted.result (c.is_end.ensures.0 c.if-not-is_end.false) c.item_at-noted.ensures (let n = c.if-slice-noted.false in omega arith) (c.requires.known c.args.place c.row_at-row.result c.row_at-row.ensures) refl c.requires.so_far
