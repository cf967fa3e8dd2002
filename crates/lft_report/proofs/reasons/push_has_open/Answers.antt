use Rattle.std.proofs.Common.{◌++◌, codes}
use Rattle.lft_ir.{specs.Words.Lines.{line_words, worker_at}, proofs.WordsLemmas.Steps.also}
use Rattle.lft_report.specs.Rows.{run_words}
use Rattle.lft_report.proofs.reasons.push_has_open.Goals as goal

pub returns : goal.returns
returns c = also _ _ _ ((((((codes "  Worker ") ++ (worker_at c.args.rows.now c.args.start)) ++ (codes " has its run of ")) ++ (run_words c.args.program.now c.args.rows.now c.args.start)) ++ (codes " open since ")) ++ (line_words c.args.start)) (codes ".\n") (also _ _ _ (((((codes "  Worker ") ++ (worker_at c.args.rows.now c.args.start)) ++ (codes " has its run of ")) ++ (run_words c.args.program.now c.args.rows.now c.args.start)) ++ (codes " open since ")) (line_words c.args.start) (also _ _ _ ((((codes "  Worker ") ++ (worker_at c.args.rows.now c.args.start)) ++ (codes " has its run of ")) ++ (run_words c.args.program.now c.args.rows.now c.args.start)) (codes " open since ") (also _ _ _ (((codes "  Worker ") ++ (worker_at c.args.rows.now c.args.start)) ++ (codes " has its run of ")) (run_words c.args.program.now c.args.rows.now c.args.start) (also _ _ _ ((codes "  Worker ") ++ (worker_at c.args.rows.now c.args.start)) (codes " has its run of ") (also _ _ _ (codes "  Worker ") (worker_at c.args.rows.now c.args.start) c.in_ok-push_str.ensures.bytes c.in_ok-push_worker_at.ensures) c.in_ok-push_str-2.ensures.bytes) c.in_ok-push_run.ensures) c.in_ok-push_str-3.ensures.bytes) c.in_ok-push_line.ensures) c.in_ok-push_str-4.ensures.bytes
