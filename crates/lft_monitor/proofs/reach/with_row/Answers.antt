use Rattle.std.proofs.Common.{refl}
use Rattle.std.proofs.lemmas.Bool.{false≢true}
use Rattle.lft_monitor.proofs.Reaching.{reach_inner, reach_same, reach_next}
use Rattle.lft_monitor.proofs.reach.with_row.Goals as goal

pub returns-then-not-is_start : goal.returns-then-not-is_start
returns-then-not-is_start c = λ t n at rises old. reach_inner t n c.args.row at c.args.reach (λ e. false≢true (c.if-not-is_start.ensures.1 e)) old

pub returns-then-is_last : goal.returns-then-is_last
returns-then-is_last c = λ t n at rises old. reach_same t n c.args.row at c.args.reach _ (c.if-not-is_start.ensures.0 refl) (c.if-is_last.ensures.0 refl) old c.in_ok-runs.ensures.1 refl refl

pub returns : goal.returns
returns c = λ t n at rises old. reach_next t n c.args.row at rises c.args.reach _ (c.if-not-is_start.ensures.0 refl) (λ e. false≢true (c.if-is_last.ensures.1 e)) old c.in_ok-runs.ensures.1 c.in_ok-tags.ensures.1 refl
