use Rattle.std.proofs.Common.{◌≡◌, Bool, false, true, refl, sym, ◌∙◌}
use Rattle.lft_races.proofs.Running.{run_same, run_more}
use Rattle.lft_races.proofs.runs.note_run.Goals as goal

pub returns-then-not-is_start_at-clause-noted : goal.returns-then-not-is_start_at-clause-noted
returns-then-not-is_start_at-clause-noted c = run_same c.args.rows.now c.args.tag c.args.place c.row_at-reaction.result c.row_at-reaction.ensures c.args.ran.now (λ s. let z : ◌≡◌ {A = Bool} false true = sym c.if-not-is_start_at.true ∙ c.is_start_at.ensures.1 s in absurd (cc)) c.requires.so_far

pub returns-clause-noted : goal.returns-clause-noted
returns-clause-noted c = run_more c.args.rows.now c.args.tag c.args.place c.row_at-reaction.result c.row_at-reaction.ensures c.args.ran.now _ (c.is_start_at.ensures.0 c.if-not-is_start_at.false) (c.requires.known c.row_at-reaction.result c.row_at-reaction.ensures) refl c.requires.so_far
