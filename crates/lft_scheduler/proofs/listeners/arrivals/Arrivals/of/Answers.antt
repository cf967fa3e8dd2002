use Rattle.std.proofs.Common.{◌↔◌, ℕ, List, sym, ap, ◌∙◌, subst, Contains}
use Rattle.lft_queue.specs.inner.Coming.NumberLists.{list_at}
use Rattle.lft_scheduler.specs.inner.Listeners.{IsArrival, IsWatched}
use Rattle.lft_scheduler.proofs.listeners.arrivals.Arrivals.of.Goals as goal

pub returns-clause-each : goal.returns-clause-each
returns-clause-each c program is p = subst (λ (ps : List ℕ). Contains ps p ↔ (IsArrival program c.args.origin p × IsWatched program p)) (sym (c.at.ensures ∙ ap (λ (lists : List (List ℕ)). list_at lists c.args.origin) c.self.view_is)) (is.each c.args.origin p)
