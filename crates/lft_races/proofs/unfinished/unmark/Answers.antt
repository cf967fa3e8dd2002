use Rattle.std.proofs.Common.{◌≡◌, Bool, false, true, refl, sym, ◌∙◌}
use Rattle.lft_races.{specs.Runs.EndsAt, proofs.Ending.{ends_here, end_here, marks_stay, marks_less}}
use Rattle.lft_races.proofs.unfinished.unmark.Goals as goal

pub returns-then-not-is_end-clause-left : goal.returns-then-not-is_end-clause-left
returns-then-not-is_end-clause-left c = marks_stay c.args.rows.now c.args.tag c.args.place c.row_at-row.result c.row_at-row.ensures c.args.marks.now (λ (q : EndsAt c.args.rows.now c.args.tag c.row_at-row.result.reaction c.args.place). let z : ◌≡◌ {A = Bool} false true = sym c.if-not-is_end.true ∙ c.is_end.ensures.1 ((end_here c.args.rows.now c.args.place c.row_at-row.result c.row_at-row.ensures c.args.tag c.row_at-row.result.reaction q).1) in absurd (cc)) c.requires.so_far

pub returns-then-not-is_same-clause-left : goal.returns-then-not-is_same-clause-left
returns-then-not-is_same-clause-left c = marks_stay c.args.rows.now c.args.tag c.args.place c.row_at-row.result c.row_at-row.ensures c.args.marks.now (λ (q : EndsAt c.args.rows.now c.args.tag c.row_at-row.result.reaction c.args.place). let z : ◌≡◌ {A = Bool} false true = sym c.if-not-is_same.true ∙ c.is_same.ensures.1 ((end_here c.args.rows.now c.args.place c.row_at-row.result c.row_at-row.ensures c.args.tag c.row_at-row.result.reaction q).2) in absurd (cc)) c.requires.so_far

pub returns-clause-left : goal.returns-clause-left
returns-clause-left c = marks_less c.args.rows.now c.args.tag c.args.place c.row_at-row.result c.row_at-row.ensures c.args.marks.now _ (ends_here c.args.rows.now c.args.place c.row_at-row.result c.row_at-row.ensures c.args.tag (c.is_end.ensures.0 c.if-not-is_end.false) (c.is_same.ensures.0 c.if-not-is_same.false)) (c.requires.known c.args.place c.row_at-row.result c.row_at-row.ensures) refl c.requires.so_far
