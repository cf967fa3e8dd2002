use Rattle.std.proofs.Common.{◌↔◌, ℕ, List, sym, ap, ◌∙◌, subst, Contains}
use Rattle.lft_scheduler.specs.inner.{Listeners.{IsListener, ListenerParts}, Lists.list_of_trigger}
use Rattle.lft_scheduler.proofs.listeners.Listeners.of.Goals as goal

pub returns : goal.returns
returns c program is r = subst (λ (rs : List ℕ). Contains rs r ↔ IsListener program c.args.trigger r) (sym (c.at.ensures ∙ ap (λ (parts : ListenerParts). list_of_trigger parts.by_trigger c.args.trigger) c.self.view_is)) (is.each c.args.trigger r)
