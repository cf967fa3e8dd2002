use Rattle.std.proofs.Common.{◌↔◌, ℕ, List, sym, ap, ◌∙◌, subst, Contains}
use Rattle.lft_scheduler.specs.inner.Listeners.{IsLive, ListenerParts}
use Rattle.lft_scheduler.proofs.listeners.Listeners.live_timers.Goals as goal

pub returns : goal.returns
returns c program is n = subst (λ (ns : List ℕ). Contains ns n ↔ IsLive program n) (sym (c.as_slice.ensures.value ∙ ap (λ (parts : ListenerParts). parts.live_timers) c.self.view_is)) (is.live n)
